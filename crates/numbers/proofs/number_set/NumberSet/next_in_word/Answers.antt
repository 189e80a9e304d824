use Rattle.std.proofs.Common.{refl, arith}
use Rattle.numbers.specs.Sets.{has}
use Rattle.numbers.proofs.Rows.{empty_rest, found_rest}
use Rattle.numbers.proofs.number_set.NumberSet.next_in_word.Goals as goal

pub returns-then-rest-eq0 : goal.returns-then-rest-eq0
unfolding has
returns-then-rest-eq0 c = record {
  none = λ k a b. empty_rest c.args.self.now.words c.args.from k c.if-rest-eq0.true a b;
  some = tt;
}

pub returns : goal.returns
unfolding has
returns c =
    let found = found_rest c.args.self.now.words c.args.from _ refl (omega arith) (omega arith) (omega arith) in
    record { none = tt; some = (omega arith, omega (arith, found.0), found.1, found.2) }
