-- The fields of a record, each read and then checked.
use Rattle.std.specs.Prelude.{ℕ, Bool, true, false, List, Some, None, Option, ◌==◌, nat_lt}
use Rattle.fields.specs.InUse.{in_use, class_of, below_given}
use Rattle.fields.specs.Reading.{Read, then, two, checked}
use Rattle.fields.specs.declared.limits.Limits.{Limits}

-- a number that may be an operand: refusal 7
abbrev pub operand : Limits → List ℕ → ℕ → Read ℕ
operand l bytes at = then (two bytes at) (λ v next. checked (in_use l v) 7 at v next)

abbrev pub same_class : Limits → Option ℕ → ℕ → Bool
same_class l None v = true
same_class l (Some d) v = class_of l d == class_of l v

-- a first source; that of a move is of the class of its destination: refusal 8
abbrev pub source : Limits → Bool → Option ℕ → List ℕ → ℕ → Read ℕ
source l false d bytes at = operand l bytes at
source l true d bytes at = then (operand l bytes at) (λ v next. checked (same_class l d v) 8 at v next)

-- the number of a record: refusal 9
abbrev pub target : Limits → List ℕ → ℕ → Read ℕ
target l bytes at = then (two bytes at) (λ t next. checked (nat_lt t l.targets) 9 at t next)

-- a slot below the count of slots: refusal 4
abbrev pub slot : Limits → List ℕ → ℕ → Read ℕ
slot l bytes at = then (two bytes at) (λ s next. checked (below_given l.slots s) 4 at s next)
