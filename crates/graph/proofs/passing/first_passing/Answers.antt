use Rattle.std.proofs.Common.{true, false, ◌≡◌, rules}
use Rattle.std.proofs.lemmas.Iterator.{first_from_Range}
use borrow.Author.Tests.{tests}
use Rattle.graph.proofs.Counting.{first_is}
use Rattle.graph.proofs.passing.first_passing.Goals as goal

pub returns : goal.returns
returns g c p h =
    first_is p c.args.from c.args.n c.find.result
    (first_from_Range _ _ _ _ (λ x. p x ≡ true) (λ x. p x ≡ false) c.find.ensures.ran (λ x q k. search (rules, tests)) (λ x q k. search (rules, tests)))
