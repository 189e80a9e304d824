use Rattle.std.proofs.Common.{◌<◌, sym, arith}
use Rattle.session_laws.proofs.Pairs.{fixed_low}
use Rattle.standing.specs.Standing.{base_of}
use Rattle.standing.proofs.Shapes.{base_sound}
use Rattle.colouring.proofs.painting.own_number.Goals as goal

pub overflow_cast-result : goal.overflow_cast-result
overflow_cast-result c =
    let s = c.args.standing.now in
    let small : c.args.v < 32 = fixed_low (base_of s) (base_sound s) c.args.v (sym c.if-is_fixed.ensures) in
    omega arith
