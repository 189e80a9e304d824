-- The registers that a session may give out. Assumes nothing.
use Rattle.std.specs.Prelude.{ℕ, ◌+◌, ◌≤◌, Bool, cond, ◌&&◌, Some, None, Option, nat_le, nat_lt}
use Rattle.classes.specs.declared.class.Class.{Class}
use Rattle.classes.specs.declared.class.Class.TheVariants.{Zero, One}

-- A bank is a class and how many registers of it may be given out, the K of graph colouring.
pub record Bank : Type 0 where
  pub class : Class
  pub registers : ℕ

-- What the check before opening makes sure of.
pub record Usable (b : Bank) : Type 0 where
  pub least : 1 ≤ b.registers
  pub most : b.registers ≤ 16

-- the numbers below 32 are registers, sixteen to a class
abbrev pub first_of : Class → ℕ
first_of Zero = 0
first_of One = 16

-- whether v is one of `many` numbers from `first` on
abbrev pub among : ℕ → ℕ → ℕ → Bool
among first many v = nat_le first v && nat_lt v (first + many)

abbrev pub is_register : Bank → ℕ → Bool
is_register b v = among (first_of b.class) b.registers v

-- below 32 only the bank's registers are of its class, whatever the class table says there
abbrev pub classes_under : Bank → (ℕ → Option Class) → ℕ → Option Class
classes_under b classes v = cond (nat_lt v 32) (cond (is_register b v) (Some b.class) None) (classes v)
