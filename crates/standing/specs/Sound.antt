-- How the parts of a standing graph hang together. Assumes nothing.
use Rattle.std.specs.Prelude.{◌≡◌, ℕ, true}
use Rattle.numbers.specs.Sets.{has}
use Rattle.numbers.specs.declared.number_set.NumberSet.{NumberSet}
use Rattle.board.specs.Boards.{opened_graph, merged_graph}
use Rattle.board.specs.declared.board.Board.{Board}
use Rattle.session_laws.specs.Base.{Base, SoundBase}

-- the graph that the session was opened over, with its bank
abbrev pub base_over : Board → ℕ → ℕ → Base
base_over board first registers = record { graph = opened_graph board; first = first; registers = registers }

pub record SoundStanding (board : Board) (first registers : ℕ) (left : NumberSet) : Type 0 where
  pub base : SoundBase (base_over board first registers)
  pub inside : (v : ℕ) → has left v ≡ true → (merged_graph board).stands v ≡ true
