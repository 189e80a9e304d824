use Rattle.code.specs.Fits.{row_fits}
use Rattle.code.proofs.body.build.keeps_bounds.Goals as goal

pub returns : goal.returns
unfolding row_fits
returns c = cc
