use Rattle.std.proofs.Common.{sym, ◌∙◌}
use Rattle.std.proofs.lemmas.Bool.{and_parts}
use Rattle.standing.proofs.Told.{told_standing}
use Rattle.standing.proofs.standing.Standing.remove.Goals as goal

pub invariant_of-self : goal.invariant_of-self
invariant_of-self c =
    let was = told_standing _ _ _ _ c.args.self.now.sound in
    record { sound = ∣ record { base = was.base; inside = λ v h. was.inside v (and_parts _ _ (sym (c.remove.ensures v) ∙ h)).0 } ∣₁ }
