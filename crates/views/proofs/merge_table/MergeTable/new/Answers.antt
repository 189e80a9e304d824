use Rattle.std.proofs.Common.{rules, tests, refl, arith}
use Rattle.views.proofs.Groups.{known_group, settled_from, same_settled}
use Rattle.views.proofs.merge_table.MergeTable.new.Goals as goal

pub invariant_of-result-clause-settled : goal.invariant_of-result-clause-settled
invariant_of-result-clause-settled c v =
    let made = c.from_fn.ensures.items in
    let alone = known_group c.from_fn.result (λ w. w) made.long (λ w h. let call = made.at w w h in search (rules, tests)) (λ w past. refl) in
    same_settled _ (λ w. w) alone v (settled_from (λ w. w) v (omega arith) refl)

pub returns : goal.returns
returns c =
    let made = c.from_fn.ensures.items in
    known_group c.from_fn.result (λ w. w) made.long (λ w h. let call = made.at w w h in search (rules, tests)) (λ w past. refl)
