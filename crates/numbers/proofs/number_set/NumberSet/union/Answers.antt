use Rattle.std.proofs.Common.{◌≡◌, ◌||◌, bit_or, get_or, ap, ◌∙◌, refl, rules}
use Rattle.std.proofs.lemmas.Nat.{or_comm}
use Rattle.numbers.specs.Sets.{has}
use Rattle.numbers.specs.Words.{bit}
use Rattle.numbers.proofs.Rows.{joined}
use Rattle.numbers.proofs.Words.{bit-bit_or}
use Rattle.numbers.proofs.number_set.NumberSet.union.Goals as goal

-- whichever of the two words the closure names first
pub returns : goal.returns
unfolding has
returns c k =
    let a = c.args.self.now in
    let b = c.args.other.now in
    joined (λ a b. a || b) a.words b.words c.combine.result.words k refl a.whole b.whole c.combine.result.whole
    (λ i h j l.
    let made = c.combine.ensures i h in
    let word : get_or c.combine.result.words i 0 ≡ bit_or (get_or a.words i 0) (get_or b.words i 0) = search (rules, or_comm) in
    ap (λ w. bit w j) word ∙ bit-bit_or _ _ j)
