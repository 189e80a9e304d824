use Rattle.std.proofs.Common.{◌+◌, ◌≤◌, not, ◌&&◌, ◌∙◌, ap₂, arith}
use Rattle.standing.specs.Standing.{base_of}
use Rattle.standing.proofs.Shapes.{bank_small}
use Rattle.standing.proofs.Tests.{bank_test}
use Rattle.standing.proofs.standing.Standing.fixed.Goals as goal

pub overflow_add-self : goal.overflow_add-self
unfolding base_of
overflow_add-self c = let small : c.args.self.now.first + c.args.self.now.registers ≤ 32 = bank_small c.args.self.now in omega arith

pub returns : goal.returns
unfolding base_of
returns c v =
    let s = c.args.self.now in
    let small : s.first + s.registers ≤ 32 = bank_small s in
    c.intersection.ensures v ∙ ap₂ (λ x y. x && y)
    (c.difference-bank.ensures v ∙ (ap₂ (λ x y. x && not y) (c.below-end.ensures v) (c.below.ensures v) ∙ bank_test s.first s.registers v small))
    (c.vertices.ensures v)
