use Rattle.std.proofs.Common.{length, ◌<◌, rules}
use Rattle.code.specs.Codes.{rows_of}
use Rattle.code.proofs.Pushing.{rows_more}
use Rattle.code.proofs.body.Code.push.Goals as goal

pub returns-clause-rows : goal.returns-clause-rows
unfolding rows_of
returns-clause-rows c =
    let code = c.args.self.now in
    let room : code.len < length code.rows = search rules in
    rows_more code.rows code.len c.args.row room
