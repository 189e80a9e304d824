use Rattle.std.proofs.Common.{not}
use Rattle.std.proofs.lemmas.Bool.{and_parts}
use Rattle.session_laws.specs.Base.{fixed}
use Rattle.std.proofs.lemmas.Result.{err_from_is_err_and}
use Rattle.session_laws.specs.Calls.{push, pushed}
use Rattle.session_laws.specs.Outcomes.{outcome_push}
use Rattle.kept.specs.Kept.{base_of, state_of}
use Rattle.kept.proofs.After.{granted_on, pushed_state, pushed_sound}
use Rattle.kept.proofs.Facts.{some_room}
use Rattle.kept.proofs.Verdicts.{by_verdict, granted_rules, refused_rules}
use Rattle.kept.proofs.kept.Kept.push.Goals as goal

pub returns-in_err-verdict : goal.returns-in_err-verdict
returns-in_err-verdict c =
    let k = c.args.self.now in
    let v = c.args.v in
    let p = err_from_is_err_and c.from_residual.result c.from_residual.ensures.1 in
    rw (p.1, p.2) (refused_rules k (push v) _ (by_verdict k v (push v) (pushed v) _ _ _ (outcome_push (base_of k) (state_of k) v) c.may_push.ensures (c.in_err-verdict.ensures (pushed v))))

pub push-requires : goal.push-requires
push-requires c =
    let k = c.args.self.now in
    let v = c.args.v in
    let o = by_verdict k v (push v) (pushed v) _ _ _ (outcome_push (base_of k) (state_of k) v) c.may_push.ensures (c.in_ok-verdict.ensures (pushed v)) in
    some_room k v (and_parts _ (not (fixed (base_of k) v)) (granted_on k (push v) (pushed v) o).stays_loose).0

pub invariant_of-self : goal.invariant_of-self
invariant_of-self c =
    let k = c.args.self.now in
    let v = c.args.v in
    let o = by_verdict k v (push v) (pushed v) _ _ _ (outcome_push (base_of k) (state_of k) v) c.may_push.ensures (c.in_ok-verdict.ensures (pushed v)) in
    record { sound = ∣ pushed_sound k v c.remove.new.self c.push.new.self c.close_all.new.self c.remove.ensures.base c.remove.ensures.board c.remove.ensures.left c.push.ensures c.close_all.ensures (granted_on k (push v) (pushed v) o) ∣₁ }

pub returns : goal.returns
unfolding base_of state_of
returns c =
    let k = c.args.self.now in
    let v = c.args.v in
    let o = by_verdict k v (push v) (pushed v) _ _ _ (outcome_push (base_of k) (state_of k) v) c.may_push.ensures (c.in_ok-verdict.ensures (pushed v)) in
    granted_rules k _ (push v) (pushed v) o c.remove.ensures.base (pushed_state k v c.remove.new.self c.push.new.self c.close_all.new.self c.remove.ensures.base c.remove.ensures.board c.remove.ensures.left c.push.ensures c.close_all.ensures)
