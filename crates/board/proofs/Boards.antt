-- What every board keeps, told by its meaning. Assumes nothing.
use Rattle.std.proofs.Common.{◌≡◌, ℕ}
use Rattle.graph.specs.Shape.{Lawful}
use Rattle.graph.proofs.Merging.{merged_is_view}
use Rattle.board.specs.Rows.{row_has}
use Rattle.board.specs.Boards.{opened_graph, table_of, merged_graph}
use Rattle.board.specs.declared.board.Board.{Board}
use Rattle.board.proofs.Untold.{told_board}

pub opened_lawful : (b : Board) → Lawful (opened_graph b)
unfolding opened_graph
opened_lawful b = (told_board _ _ _ _ _ b.sound).lawful

pub merged_lawful : (b : Board) → Lawful (merged_graph b)
merged_lawful b = (merged_is_view (table_of b)).keeps_laws (opened_graph b) (opened_lawful b)

pub rows_merged : (b : Board) (u v : ℕ) → row_has b.rows.sets u v ≡ (merged_graph b).joined u v
unfolding opened_graph table_of
rows_merged b u v = (told_board _ _ _ _ _ b.sound).up_to_date u v
