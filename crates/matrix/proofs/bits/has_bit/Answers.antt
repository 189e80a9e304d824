use Rattle.std.proofs.Common.{◌/◌, ◌%◌, get_or}
use Rattle.matrix.proofs.Digits.{bit_read}
use Rattle.matrix.proofs.bits.has_bit.Goals as goal

pub returns : goal.returns
returns c = bit_read (get_or c.args.bits.now (c.args.place / 8) 0) (c.args.place % 8)
