use Rattle.std.proofs.Common.{◌∙◌}
use Rattle.kept.proofs.Verdicts.{fixed_is}
use Rattle.kept.proofs.kept.Kept.is_fixed.Goals as goal

pub returns : goal.returns
returns c = c.is_fixed.ensures ∙ fixed_is c.args.self.now c.args.v
