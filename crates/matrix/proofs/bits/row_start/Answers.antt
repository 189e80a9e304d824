use Rattle.std.proofs.Common.{refl}
use Rattle.matrix.specs.Layout.{triangle}
use Rattle.matrix.proofs.Triangle.{square_ge, triangle_most}
use Rattle.matrix.proofs.bits.row_start.Goals as goal

pub overflow_sub-result : goal.overflow_sub-result
overflow_sub-result c = square_ge c.args.u

pub returns : goal.returns
unfolding triangle
returns c = record { place = refl; small = triangle_most c.args.u c.requires }
