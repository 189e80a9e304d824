use Rattle.std.proofs.Common.{◌∙◌}
use Rattle.kept.proofs.Verdicts.{any_light_is}
use Rattle.kept.proofs.kept.Kept.any_light.Goals as goal

pub returns : goal.returns
returns c = c.any_light.ensures ∙ any_light_is c.args.self.now
