use Rattle.std.proofs.Common.{arith}
use Rattle.std.proofs.lemmas.Nat.{and_comm}
use Rattle.numbers.proofs.Words.{bit_and_not}
use Rattle.numbers.proofs.number_set.fn.NumberSet.difference.combine.Goals as goal

pub returns : goal.returns
returns c j l = grind (arith, bit_and_not, and_comm)
