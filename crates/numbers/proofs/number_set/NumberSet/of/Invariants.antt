use Rattle.numbers.specs.Picking.{Picks}
use Rattle.numbers.specs.Sets.{has}
use Rattle.numbers.proofs.number_set.NumberSet.of.Given as goal

abbrev pub invariant-loop-k : goal.invariant-loop-k
invariant-loop-k g l = Picks (λ k b. goal.F-post g l.passes k b) l.k (has l.set)
