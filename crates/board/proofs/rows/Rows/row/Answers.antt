use Rattle.board.proofs.Lookup.{row_read}
use Rattle.board.proofs.rows.Rows.row.Goals as goal

pub returns : goal.returns
returns c v =
    let found = c.get.ensures.lookup in
    row_read c.args.self.now.sets c.args.u v c.unwrap_or_else.result c.get.result found.0 found.1 (rw c.copied.ensures at c.unwrap_or_else.ensures)
