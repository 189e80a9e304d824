use Rattle.std.proofs.Common.{arith}
use Rattle.numbers.proofs.Sets.{has_apart}
use Rattle.numbers.proofs.number_set.NumberSet.remove.Goals as goal

pub returns-else-n-lt-LIMIT : goal.returns-else-n-lt-LIMIT
returns-else-n-lt-LIMIT c k = has_apart c.args.self.now c.args.n k (omega arith)
