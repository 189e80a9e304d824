use Rattle.std.proofs.Common.{◌/◌, ◌%◌, get_or}
use Rattle.numbers.specs.Sets.{has}
use Rattle.numbers.specs.Words.{bit, member}
use Rattle.std.proofs.lemmas.Nat.Bits.{shr_and_one}
use Rattle.numbers.proofs.number_set.NumberSet.get.Goals as goal

pub returns : goal.returns
unfolding has member bit
returns c = rw (shr_and_one (get_or c.args.self.now.words (c.args.n / 64) 0) (c.args.n % 64))
