use Rattle.std.proofs.Common.{◌≡◌, ◌/◌, ◌^◌, ◌<◌, ◌≤◌, arith, pow_mono, rules}
use native.Mathlib.Nat.{div-eq_of_lt}
use Rattle.fields.proofs.limits.Limits.class_of_value.Goals as goal
use Rattle.fields.proofs.limits.Limits.class_of_value.Goals.{else-bit-lt128-via-then-bit-lt128+else-classes-bit-eq1, else-bit-lt128-via-else-bit-lt128}

pub returns-else-bit-lt128 : goal.returns-else-bit-lt128
returns-else-bit-lt128 c =
    elim c.else-bit-lt128.branch [
      | else-bit-lt128-via-then-bit-lt128+else-classes-bit-eq1 w ↦ omega arith
      | else-bit-lt128-via-else-bit-lt128 w ↦
          let high : 2 ^ 128 ≤ 2 ^ c.args.bit =
          let far : 128 ≤ c.args.bit = omega arith in
          pow_mono far in
          let fits : c.args.self.now.classes < 2 ^ 128 = search rules in
          let none : c.args.self.now.classes / 2 ^ c.args.bit ≡ 0 = div-eq_of_lt (omega arith) in
          omega arith
    ]
