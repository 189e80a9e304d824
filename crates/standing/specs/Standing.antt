-- What a standing graph means. Assumes nothing.
use Rattle.std.specs.Prelude.{ℕ, Bool, not, ◌&&◌, List, ◌==◌, nat_lt, slice_index}
use Rattle.graph.specs.Shape.{Shape, degree}
use Rattle.graph.specs.Views.{keeping}
use Rattle.numbers.specs.Sets.{has}
use Rattle.board.specs.Boards.{merged_graph}
use Rattle.board.specs.declared.board.Board.{Board}
use Rattle.session_laws.specs.Base.{Base, fixed}
use Rattle.session_laws.specs.Emptying.{loose}
use Rattle.standing.specs.Sound.{base_over}
use Rattle.standing.specs.declared.standing.Standing.{Standing}

unfoldable pub board_of : Standing → Board
board_of s = s.board

-- the graph as opened, and the bank
unfoldable pub base_of : Standing → Base
base_of s = base_over s.board s.first s.registers

abbrev pub registers_of : Standing → ℕ
registers_of s = (base_of s).registers

-- fixed vertices are the registers of the bank that stand
abbrev pub fixed_in : Standing → ℕ → Bool
fixed_in s = fixed (base_of s)

-- whether v is not removed
unfoldable pub is_left : Standing → ℕ → Bool
is_left s = has s.left

-- the groups that are left, and the pairs of two such
unfoldable pub graph_of : Standing → Shape
graph_of s = keeping (has s.left) (merged_graph s.board)

abbrev pub loose_in : Standing → ℕ → Bool
loose_in s = loose (fixed_in s) (graph_of s)

-- whether v is joined to fewer than there are registers
abbrev pub light_at : Standing → ℕ → Bool
light_at s v = nat_lt (degree (graph_of s) v) (registers_of s)

abbrev pub light_loose : Standing → ℕ → Bool
light_loose s v = loose_in s v && light_at s v

-- whether the row of marks has one for w
abbrev pub marked : List ℕ → ℕ → Bool
marked marks w = not (slice_index marks w == 0)
