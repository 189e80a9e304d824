use Rattle.std.proofs.Common.{rules, of_calls}
use Rattle.numbers.proofs.number_set.NumberSet.combine.Goals as goal

pub returns : goal.returns
returns g c i l = let called = c.from_fn.ensures.items.at i 0 l in search (rules, of_calls)
