-- What the array of registers says of each group. Assumes nothing.
use Rattle.std.specs.Prelude.{ℕ, ◌<◌, ◌≤◌, cond, List, length, slice_index, slice_index_or, None, Option}
use Rattle.graph.specs.Shape.{Shape}
use Rattle.board.specs.Boards.{merged_graph, opened_graph, table_of}
use Rattle.session_laws.specs.Colouring.{none, or_none}
use Rattle.standing.specs.Standing.{board_of}
use Rattle.standing.specs.declared.standing.Standing.{Standing}

-- the merged graph, removed groups and all
abbrev pub merged_under : Standing → Shape
merged_under s = merged_graph (board_of s)

-- groups past the end have no register
abbrev pub read_at : List (Option ℕ) → ℕ → ℕ
read_at groups w = or_none (slice_index_or groups w None)

-- a member has the register of its group
abbrev pub member_register : Standing → (ℕ → ℕ) → ℕ → ℕ
member_register s registers v = cond ((opened_graph (board_of s)).stands v) (registers (table_of (board_of s) v)) none

-- what is removed can be looked up in the array
abbrev pub Small : List ℕ → ℕ → Type 0
Small removed top = (i : ℕ) → top ≤ i → i < length removed → slice_index removed i < 512
