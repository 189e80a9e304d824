-- Which numbers a record may name, and their classes.
use Rattle.std.specs.Prelude.{ℕ, ◌+◌, ◌-◌, ◌/◌, ◌%◌, ◌^◌, Bool, false, cond, ◌&&◌, ◌||◌, Some, None, Option, nat_le, nat_lt}
use Rattle.fields.specs.declared.limits.Limits.{Limits}

-- registers of class 0 are numbered from 0, those of class 1 from 16, values from 32
abbrev pub in_use : Limits → ℕ → Bool
in_use l v =
    nat_lt v l.k0 || ((nat_le 16 v && nat_lt v (16 + l.k1)) || (nat_le 32 v && nat_lt v (32 + l.values)))

-- the class of a register is its bank, that of a value its bit among the classes
abbrev pub class_of : Limits → ℕ → ℕ
class_of l v = cond {A = ℕ} (nat_lt v 16) 0 (cond {A = ℕ} (nat_lt v 32) 1 (l.classes / 2 ^ (v - 32) % 2))

-- whether s is below the count, where one is given
abbrev pub below_given : Option ℕ → ℕ → Bool
below_given None s = false
below_given (Some count) s = nat_lt s count
