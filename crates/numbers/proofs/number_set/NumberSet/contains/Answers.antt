use Rattle.std.proofs.Common.{sym, ◌∙◌, arith}
use Rattle.std.proofs.lemmas.Bool.{le-ltb}
use Rattle.numbers.proofs.Sets.{has_large}
use Rattle.numbers.proofs.number_set.NumberSet.contains.Goals as goal

pub returns-else-n-lt-LIMIT : goal.returns-else-n-lt-LIMIT
returns-else-n-lt-LIMIT c = le-ltb c.args.n 512 (omega arith) ∙ sym (has_large c.args.self.now c.args.n (omega arith))
