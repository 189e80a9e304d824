use Rattle.std.proofs.Common.{ℕ, sym, ap, ◌∙◌}
use Rattle.std.proofs.lemmas.Bool.{and_from, eq-eqb}
use Rattle.standing.proofs.standing.Standing.new.Goals as goal

pub invariant_of-result : goal.invariant_of-result
invariant_of-result c = record {
  sound = ∣ record {
    base = c.requires.0;
    inside = λ v h. and_from _ _ (sym (c.vertices-left.ensures v) ∙ h) (eq-eqb _ _ (ap (λ (t : ℕ → ℕ). t v) c.requires.1));
  } ∣₁;
}
