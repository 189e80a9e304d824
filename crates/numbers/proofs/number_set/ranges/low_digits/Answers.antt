use Rattle.std.proofs.Common.{sym, ◌∙◌, arith}
use Rattle.std.proofs.lemmas.Nat.{one_shl}
use Rattle.std.proofs.lemmas.Bool.{lt-ltb}
use Rattle.numbers.proofs.Words.{bit_ones}
use Rattle.numbers.proofs.number_set.ranges.low_digits.Goals as goal

pub returns-then-n-ge64 : goal.returns-then-n-ge64
returns-then-n-ge64 c j l = bit_ones 64 j ∙ lt-ltb j 64 l ∙ sym (lt-ltb j c.args.n (omega arith))

pub returns : goal.returns
returns c j l = rw (one_shl c.args.n 64 (omega arith)) (bit_ones c.args.n j)
