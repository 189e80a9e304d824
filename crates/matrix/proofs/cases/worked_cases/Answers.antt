use Rattle.std.proofs.Common.{refl}
use Rattle.matrix.specs.Layout.{triangle}
use Rattle.matrix.proofs.cases.worked_cases.Goals as goal

pub returns : goal.returns
unfolding triangle
returns c = refl
