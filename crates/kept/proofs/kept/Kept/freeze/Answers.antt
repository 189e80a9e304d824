use Rattle.std.proofs.Common.{refl}
use Rattle.std.proofs.lemmas.Result.{err_from_is_err_and}
use Rattle.session_laws.specs.Calls.{freeze, frozen}
use Rattle.session_laws.specs.Outcomes.{outcome_freeze}
use Rattle.kept.specs.Kept.{base_of, state_of}
use Rattle.kept.proofs.After.{granted_on, frozen_state, frozen_sound}
use Rattle.kept.proofs.Verdicts.{by_verdict, granted_rules, refused_rules}
use Rattle.kept.proofs.kept.Kept.freeze.Goals as goal

pub returns-in_err-verdict : goal.returns-in_err-verdict
returns-in_err-verdict c =
    let k = c.args.self.now in
    let v = c.args.v in
    let p = err_from_is_err_and c.from_residual.result c.from_residual.ensures.1 in
    rw (p.1, p.2) (refused_rules k (freeze v) _ (by_verdict k v (freeze v) (frozen v) _ _ _ (outcome_freeze (base_of k) (state_of k) v) c.may_freeze.ensures (c.in_err-verdict.ensures (frozen v))))

pub invariant_of-self : goal.invariant_of-self
invariant_of-self c =
    let k = c.args.self.now in
    let v = c.args.v in
    let o = by_verdict k v (freeze v) (frozen v) _ _ _ (outcome_freeze (base_of k) (state_of k) v) c.may_freeze.ensures (c.in_ok-verdict.ensures (frozen v)) in
    record { sound = ∣ frozen_sound k 0 0 v c.close_all.new.self c.close_all.ensures (granted_on k (freeze v) (frozen v) o) ∣₁ }

pub returns : goal.returns
unfolding base_of state_of
returns c =
    let k = c.args.self.now in
    let v = c.args.v in
    let o = by_verdict k v (freeze v) (frozen v) _ _ _ (outcome_freeze (base_of k) (state_of k) v) c.may_freeze.ensures (c.in_ok-verdict.ensures (frozen v)) in
    granted_rules k _ (freeze v) (frozen v) o refl (frozen_state k 0 0 v c.close_all.new.self c.close_all.ensures)
