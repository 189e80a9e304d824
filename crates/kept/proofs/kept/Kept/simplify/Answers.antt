use Rattle.std.proofs.Common.{not, refl}
use Rattle.std.proofs.lemmas.Bool.{and_parts}
use Rattle.session_laws.specs.Base.{fixed}
use Rattle.std.proofs.lemmas.Result.{err_from_is_err_and}
use Rattle.session_laws.specs.Calls.{simplify, simplified}
use Rattle.session_laws.specs.Outcomes.{outcome_simplify}
use Rattle.kept.specs.Kept.{base_of, state_of}
use Rattle.kept.proofs.After.{granted_on, simplified_state, simplified_sound}
use Rattle.kept.proofs.Facts.{some_room}
use Rattle.kept.proofs.Verdicts.{by_verdict, granted_rules, refused_rules}
use Rattle.kept.proofs.kept.Kept.simplify.Goals as goal

pub returns-in_err-verdict : goal.returns-in_err-verdict
returns-in_err-verdict c =
    let k = c.args.self.now in
    let v = c.args.v in
    let p = err_from_is_err_and c.from_residual.result c.from_residual.ensures.1 in
    rw (p.1, p.2) (refused_rules k (simplify v) _ (by_verdict k v (simplify v) (simplified v) _ _ _ (outcome_simplify (base_of k) (state_of k) v) c.may_simplify.ensures (c.in_err-verdict.ensures (simplified v))))

pub push-requires : goal.push-requires
push-requires c =
    let k = c.args.self.now in
    let v = c.args.v in
    let o = by_verdict k v (simplify v) (simplified v) _ _ _ (outcome_simplify (base_of k) (state_of k) v) c.may_simplify.ensures (c.in_ok-verdict.ensures (simplified v)) in
    some_room k v (and_parts _ (not (fixed (base_of k) v)) (granted_on k (simplify v) (simplified v) o).stays_loose).0

pub invariant_of-self : goal.invariant_of-self
invariant_of-self c =
    let k = c.args.self.now in
    let v = c.args.v in
    let o = by_verdict k v (simplify v) (simplified v) _ _ _ (outcome_simplify (base_of k) (state_of k) v) c.may_simplify.ensures (c.in_ok-verdict.ensures (simplified v)) in
    record { sound = ∣ simplified_sound k v c.remove.new.self c.push.new.self k.moves c.remove.ensures.base c.remove.ensures.board c.remove.ensures.left c.push.ensures refl (granted_on k (simplify v) (simplified v) o) ∣₁ }

pub returns : goal.returns
unfolding base_of state_of
returns c =
    let k = c.args.self.now in
    let v = c.args.v in
    let o = by_verdict k v (simplify v) (simplified v) _ _ _ (outcome_simplify (base_of k) (state_of k) v) c.may_simplify.ensures (c.in_ok-verdict.ensures (simplified v)) in
    granted_rules k _ (simplify v) (simplified v) o c.remove.ensures.base (simplified_state k v c.remove.new.self c.push.new.self k.moves c.remove.ensures.base c.remove.ensures.board c.remove.ensures.left c.push.ensures refl)
