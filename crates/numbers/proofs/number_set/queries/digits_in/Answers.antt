use Rattle.std.proofs.Common.{◌≤◌, arith}
use lib.Count.{ones, ones-le}
use Rattle.numbers.proofs.Words.{ones_count}
use Rattle.numbers.proofs.number_set.queries.digits_in.Goals as goal

pub overflow_cast-result : goal.overflow_cast-result
overflow_cast-result c =
    let few : ones c.args.word ≤ 64 = ones-le 64 c.args.word (omega arith) in
    omega arith

pub returns : goal.returns
returns c = record { value = ones_count 64 c.args.word (omega arith); bound = ones-le 64 c.args.word (omega arith) }
