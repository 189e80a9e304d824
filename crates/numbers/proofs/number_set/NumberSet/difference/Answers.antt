use Rattle.std.proofs.Common.{not, ◌&&◌, refl, rules}
use Rattle.numbers.specs.Sets.{has}
use Rattle.numbers.proofs.Rows.{joined}
use Rattle.numbers.proofs.number_set.NumberSet.difference.Goals as goal

pub returns : goal.returns
unfolding has
returns c k =
    let a = c.args.self.now in
    let b = c.args.other.now in
    joined (λ a b. a && not b) a.words b.words c.combine.result.words k refl a.whole b.whole c.combine.result.whole
    (λ i h j l. let made = c.combine.ensures i h in search rules)
