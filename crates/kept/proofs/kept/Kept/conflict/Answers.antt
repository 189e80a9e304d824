use Rattle.std.proofs.Common.{sym, ◌∙◌, arith}
use Rattle.std.proofs.lemmas.Grind.{common_steps}
use Rattle.kept.proofs.Verdicts.{joined_is}
use Rattle.kept.proofs.kept.Kept.conflict.Goals as goal

pub returns-then-joined : goal.returns-then-joined
returns-then-joined c =
    let j = sym (c.joined.ensures ∙ joined_is c.args.self.now c.args.x c.args.y) ∙ c.if-joined.true in
    grind (arith, common_steps, j)

pub returns-then-is_fixed : goal.returns-then-is_fixed
returns-then-is_fixed c =
    let j = sym (c.joined.ensures ∙ joined_is c.args.self.now c.args.x c.args.y) ∙ c.if-joined.false in
    grind (arith, common_steps, j)

pub returns-else-is_fixed : goal.returns-else-is_fixed
returns-else-is_fixed c =
    let j = sym (c.joined.ensures ∙ joined_is c.args.self.now c.args.x c.args.y) ∙ c.if-joined.false in
    grind (arith, common_steps, j)
