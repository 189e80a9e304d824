use Rattle.std.proofs.Common.{◌∙◌}
use Rattle.kept.proofs.Verdicts.{light_is}
use Rattle.kept.proofs.kept.Kept.is_light.Goals as goal

pub returns : goal.returns
returns c = c.is_light.ensures ∙ light_is c.args.self.now c.args.v
