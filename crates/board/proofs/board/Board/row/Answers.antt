use Rattle.std.proofs.Common.{◌∙◌}
use Rattle.board.proofs.Boards.{rows_merged}
use Rattle.board.proofs.board.Board.row.Goals as goal

pub returns : goal.returns
returns c v = c.row.ensures v ∙ rows_merged c.args.self.now c.args.u v
