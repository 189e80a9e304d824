-- What a board means. Assumes nothing.
use Rattle.std.specs.Prelude.{◌≡◌, ℕ, ◌<◌, true, false}
use Rattle.graph.specs.Shape.{Shape}
use Rattle.graph.specs.Views.{merged_view}
use Rattle.views.specs.Groups.{group_at}
use Rattle.board.specs.Sound.{snapshot}
use Rattle.board.specs.declared.board.Board.{Board}

-- the graph that the session was opened over
unfoldable pub opened_graph : Board → Shape
opened_graph b = snapshot b.size b.vertices b.given.sets

-- the merge table
unfoldable pub table_of : Board → ℕ → ℕ
table_of b = group_at b.table.to

-- one vertex for each group
abbrev pub merged_graph : Board → Shape
merged_graph b = merged_view (table_of b) (opened_graph b)

-- Two groups that can become one: both are named so, and they are not joined.
pub record TwoGroups (b : Board) (low high : ℕ) : Type 0 where
  pub lower : low < high
  pub low_stands : (merged_graph b).stands low ≡ true
  pub high_stands : (merged_graph b).stands high ≡ true
  pub apart : (merged_graph b).joined low high ≡ false
