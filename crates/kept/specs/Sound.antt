-- What the parts of a session mean, and how they hang together. Assumes nothing.
use Rattle.std.specs.Prelude.{◌≡◌, ℕ}
use Rattle.numbers.specs.Sets.{has}
use Rattle.numbers.specs.declared.number_set.NumberSet.{NumberSet}
use Rattle.session_laws.specs.State.{State, standing_graph}
use Rattle.session_laws.specs.Invariants.{SoundState}
use Rattle.board.specs.Boards.{table_of}
use Rattle.standing.specs.Standing.{base_of, board_of, is_left}
use Rattle.standing.specs.declared.standing.Standing.{Standing}
use Rattle.kept.specs.Moves.{moves_in}
use Rattle.kept.specs.Removed.{groups_in}
use Rattle.kept.specs.declared.noted.Noted.{Noted}
use Rattle.kept.specs.declared.removed.Removed.{Removed}

abbrev pub state_over : Standing → Removed → Noted → NumberSet → State
state_over standing removed moves temporaries = record {
  table = table_of (board_of standing);
  removed = groups_in removed;
  moves = moves_in moves;
  temporary = has temporaries;
}

pub record SoundKept (standing : Standing) (removed : Removed) (moves : Noted) (temporaries : NumberSet) : Type 0 where
  -- what is left are the groups that are not removed
  pub left : (v : ℕ) → is_left standing v ≡ (standing_graph (base_of standing) (state_over standing removed moves temporaries)).stands v
  pub state : SoundState (base_of standing) (state_over standing removed moves temporaries)

-- Nothing was merged or removed yet.
pub record Fresh (standing : Standing) : Type 0 where
  pub table : table_of (board_of standing) ≡ (λ v. v)
  pub left : (v : ℕ) → is_left standing v ≡ (base_of standing).graph.stands v
