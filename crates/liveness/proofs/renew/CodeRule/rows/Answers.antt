use Rattle.std.proofs.Common.{arith}
use Rattle.liveness.proofs.Sweeps.{few_rows}
use Rattle.liveness.proofs.renew.CodeRule.rows.Goals as goal

pub returns-clause-few : goal.returns-clause-few
returns-clause-few c = let few = few_rows c.args.self.now in omega arith
