use Rattle.std.proofs.Common.{sym, refl, ◌∙◌}
use Rattle.std.proofs.lemmas.Result.{err_from_is_err_and}
use Rattle.session_laws.specs.Calls.{marked, mark}
use Rattle.session_laws.specs.Outcomes.{outcome_mark}
use Rattle.kept.specs.Kept.{base_of, state_of}
use Rattle.kept.proofs.After.{granted_on, marked_state, marked_sound}
use Rattle.kept.proofs.Facts.{stands_small}
use Rattle.kept.proofs.Verdicts.{granted_rules, refused_rules}
use Rattle.kept.proofs.kept.Kept.mark.Goals as goal

pub returns-in_err-verdict : goal.returns-in_err-verdict
returns-in_err-verdict c =
    let k = c.args.self.now in
    let v = c.args.v in
    let p = err_from_is_err_and c.from_residual.result c.from_residual.ensures.1 in
    rw (p.1, p.2) (refused_rules k (mark v) _ (c.in_err-verdict.ensures (marked v) ∙ sym (outcome_mark (base_of k) (state_of k) v)))

pub invariant_of-self : goal.invariant_of-self
invariant_of-self c =
    let k = c.args.self.now in
    let v = c.args.v in
    let g = granted_on k (mark v) (marked v) (c.in_ok-verdict.ensures (marked v) ∙ sym (outcome_mark (base_of k) (state_of k) v)) in
    record { sound = ∣ marked_sound k v c.insert.new.self (stands_small k v g) c.insert.ensures.after g ∣₁ }

pub returns : goal.returns
unfolding base_of state_of
returns c =
    let k = c.args.self.now in
    let v = c.args.v in
    let o = c.in_ok-verdict.ensures (marked v) ∙ sym (outcome_mark (base_of k) (state_of k) v) in
    granted_rules k _ (mark v) (marked v) o refl (marked_state k v c.insert.new.self (stands_small k v (granted_on k (mark v) (marked v) o)) c.insert.ensures.after)
