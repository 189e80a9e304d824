-- The rules that one record keeps, apart from how it is read.
use Rattle.std.specs.Prelude.{◌≡◌, ℕ, ◌<◌, Bool, true, ◌&&◌, ltb, List, [], ◌∷◌, length, take, drop, is_some, Some, None, Option, ◌==◌, nat_lt, slice_index}
use Rattle.code.specs.Kinds.{own}
use Rattle.code.specs.Rows.{Fields}
use Rattle.code.specs.Writing.{map_byte}
use Rattle.fields.specs.InUse.{in_use, below_given}
use Rattle.fields.specs.Operands.{same_class}
use Rattle.fields.specs.declared.limits.Limits.{Limits}

-- a field that is there passes the test
abbrev pub passes : {A : Type 0} → (A → Bool) → Option A → Bool
passes test None = true
passes test (Some a) = test a

-- a number of two bytes that passes the test
abbrev pub short : (ℕ → Bool) → ℕ → Bool
short test n = nat_lt n 65536 && test n

abbrev pub all_bytes : List ℕ → Bool
all_bytes [] = true
all_bytes (b ∷ bs) = nat_lt b 256 && all_bytes bs

-- eight bytes
abbrev pub eight : List ℕ → Bool
eight bytes = length bytes == 8 && all_bytes bytes

-- the rules that a record keeps within the limits
pub record Keeps (l : Limits) (f : Fields) : Type 0 where
  -- the kind is a byte, and the fields that are there are those of one of its own maps
  pub kind : f.kind < 256
  pub fields : own (is_some l.slots) f.kind (map_byte f) ≡ true
  -- its operands are in use
  pub destination : passes (short (in_use l)) f.destination ≡ true
  pub first : passes (short (in_use l)) f.first ≡ true
  pub second : passes (short (in_use l)) f.second ≡ true
  -- a move stays within a class
  pub classes : f.kind ≡ 3 → passes (same_class l f.destination) f.first ≡ true
  -- its target is the number of a record, its slot one of the slots
  pub target : passes (short (λ t. ltb t l.targets)) f.target ≡ true
  pub slot : passes (short (below_given l.slots)) f.slot ≡ true
  pub constant : passes eight f.constant ≡ true

-- these bytes stand in the input from the place on
abbrev pub Stands : List ℕ → ℕ → List ℕ → Type 0
Stands input at bytes = take (length bytes) (drop at input) ≡ bytes

-- an input consists of bytes
abbrev pub Bytes : List ℕ → Type 0
Bytes input = (k : ℕ) → slice_index input k < 256
