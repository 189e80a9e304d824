use Rattle.std.proofs.Common.{refl}
use Rattle.code.specs.Codes.{rows_of}
use Rattle.code.proofs.body.Code.new.Goals as goal

pub returns-clause-made : goal.returns-clause-made
unfolding rows_of
returns-clause-made c = (refl, refl, refl)
