use Rattle.std.proofs.Common.{◌∙◌, arith}
use Rattle.views.specs.Groups.{group_at, united}
use Rattle.views.proofs.Groups.{merge_group, same_settled, united_settled, united_merged}
use Rattle.views.proofs.merge_table.MergeTable.merge.Goals as goal

pub invariant_of-result-clause-settled : goal.invariant_of-result-clause-settled
invariant_of-result-clause-settled c w =
    let t = c.args.self in
    let a = c.in-Some-Some.ensures.lookup.3 in
    let b = c.in-Some-Some.ensures'.lookup.3 in
    let is = merge_group t.to c.unite.result c.args.u c.args.v _ _ t.whole t.settled a.0 b.0 (a.1 c.args.u) (b.1 c.args.v) c.unite.ensures.whole c.unite.ensures.each in
    same_settled (group_at c.unite.result) (united (group_at t.to) c.args.u c.args.v) is w (united_settled (group_at t.to) t.settled c.args.u c.args.v w)

pub returns : goal.returns
returns c =
    let t = c.args.self in
    let a = c.in-Some-Some.ensures.lookup.3 in
    let b = c.in-Some-Some.ensures'.lookup.3 in
    merge_group t.to c.unite.result c.args.u c.args.v _ _ t.whole t.settled a.0 b.0 (a.1 c.args.u) (b.1 c.args.v) c.unite.ensures.whole c.unite.ensures.each
    ∙ united_merged (group_at t.to) c.args.u c.args.v (omega (arith, t.whole, a.0)) (omega (arith, t.whole, b.0))
