use Rattle.std.proofs.Common.{◌≡◌, sym, subst, arith}
use Rattle.std.proofs.lemmas.Grind.{common_steps}
use Rattle.std.proofs.lemmas.Bool.{not-true, not-false}
use Rattle.std.proofs.lemmas.Result.{err_from_is_err_and}
use Rattle.kept.specs.Kept.{state_of}
use Rattle.kept.specs.Moves.{moves_in, Found}
use Rattle.kept.specs.declared.refusal.Refusal.TheVariants.{NoSuch}
use Rattle.kept.proofs.Deciding.{merge_none, merge_shut, merge_together, merge_apart, merge_merged, merge_not}
use Rattle.kept.proofs.kept.Kept.settle.Goals as goal

pub returns-in_err-ends : goal.returns-in_err-ends
unfolding state_of
returns-in_err-ends c lent long =
    let none = subst (Found (moves_in c.args.self.now.moves) c.args.m) c.in_err-ends.ensures.ok_part c.get.ensures in
    let p = err_from_is_err_and c.from_residual.result c.from_residual.ensures.1 in
    let same : c.in_err-ends.field-0.0 ≡ NoSuch = grind (arith, common_steps) in
    rw (p.1, p.2, same) (sym (merge_none c.args.self.now c.args.m lent long none))

pub returns-then-not-ends : goal.returns-then-not-ends
unfolding state_of
returns-then-not-ends c lent long =
    let found = subst (Found (moves_in c.args.self.now.moves) c.args.m) c.in_ok-ends.ensures.ok_part c.get.ensures in
    sym (merge_shut c.args.self.now c.args.m lent long found.0 c.in_ok-ends.ends found.1 (not-true _ c.if-not-ends.true))

pub returns-then-x-y : goal.returns-then-x-y
unfolding state_of
returns-then-x-y c lent long =
    let found = subst (Found (moves_in c.args.self.now.moves) c.args.m) c.in_ok-ends.ensures.ok_part c.get.ensures in
    sym (merge_together c.args.self.now c.args.m lent long found.0 c.in_ok-ends.ends found.1 (not-false _ c.if-not-ends.false)
    c.group-x.result c.group-y.result c.group-x.ensures c.group-y.ensures c.if-x-y.true)

pub returns-then-conflict : goal.returns-then-conflict
unfolding state_of
returns-then-conflict c lent long =
    let found = subst (Found (moves_in c.args.self.now.moves) c.args.m) c.in_ok-ends.ensures.ok_part c.get.ensures in
    sym (merge_apart c.args.self.now c.args.m lent long found.0 c.in_ok-ends.ends found.1 (not-false _ c.if-not-ends.false)
    c.group-x.result c.group-y.result c.group-x.ensures c.group-y.ensures c.if-x-y.false c.conflict.result c.conflict.ensures c.if-conflict.true)

pub returns-then-may_merge : goal.returns-then-may_merge
unfolding state_of
returns-then-may_merge c lent long =
    let found = subst (Found (moves_in c.args.self.now.moves) c.args.m) c.in_ok-ends.ensures.ok_part c.get.ensures in
    sym (merge_merged c.args.self.now c.args.m lent long found.0 c.in_ok-ends.ends found.1 (not-false _ c.if-not-ends.false)
    c.group-x.result c.group-y.result c.group-x.ensures c.group-y.ensures c.if-x-y.false c.conflict.result c.conflict.ensures c.if-conflict.false
    c.may_merge.result c.may_merge.ensures c.if-may_merge.true)

pub returns-else-may_merge : goal.returns-else-may_merge
unfolding state_of
returns-else-may_merge c lent long =
    let found = subst (Found (moves_in c.args.self.now.moves) c.args.m) c.in_ok-ends.ensures.ok_part c.get.ensures in
    sym (merge_not c.args.self.now c.args.m lent long found.0 c.in_ok-ends.ends found.1 (not-false _ c.if-not-ends.false)
    c.group-x.result c.group-y.result c.group-x.ensures c.group-y.ensures c.if-x-y.false c.conflict.result c.conflict.ensures c.if-conflict.false
    c.may_merge.result c.may_merge.ensures c.if-may_merge.false)
