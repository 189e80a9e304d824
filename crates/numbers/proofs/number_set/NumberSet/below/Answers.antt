use Rattle.std.proofs.Common.{rules, of_calls}
use Rattle.numbers.specs.Sets.{has}
use Rattle.numbers.proofs.Rows.{filled}
use Rattle.numbers.proofs.number_set.NumberSet.below.Goals as goal

pub returns : goal.returns
unfolding has
returns c k =
    filled c.args.n c.from_fn.result k c.from_fn.ensures.items.long
    (λ i l j b. let called = c.from_fn.ensures.items.at i 0 l in search (rules, of_calls))
