-- Reading bytes from a place on: either a value and the next place, or a refusal's number and the place it names.
use Rattle.std.specs.Prelude.{ℕ, ◌+◌, ◌*◌, Bool, true, false, cond, List, length, take, drop, Some, None, Option, nat_le, slice_index}

pub data Read (A : Type 0) : Type 0 where
  got : A → ℕ → Read A
  bad : ℕ → ℕ → Read A

-- reads on from where the first reading ended; a refusal stays
abbrev pub then : {A B : Type 0} → Read A → (A → ℕ → Read B) → Read B
then (got a place) next = next a place
then (bad number at) next = bad number at

-- a part of so many bytes, or the refusal that the input ends early, which names its length
abbrev pub if_long : {A : Type 0} → List ℕ → ℕ → ℕ → A → Read A
if_long bytes at size value = cond (nat_le (at + size) (length bytes)) (got value (at + size)) (bad 3 (length bytes))

abbrev pub byte : List ℕ → ℕ → Read ℕ
byte bytes at = if_long bytes at 1 (slice_index bytes at)

-- a number of two bytes, the lowest first
abbrev pub two : List ℕ → ℕ → Read ℕ
two bytes at = if_long bytes at 2 (slice_index bytes at + 256 * slice_index bytes (at + 1))

-- so many bytes, as they stand in the input
abbrev pub part : ℕ → List ℕ → ℕ → Read (List ℕ)
part size bytes at = if_long bytes at size (take size (drop at bytes))

-- a value that passes its check, or the refusal of this number and place
abbrev pub checked : {A : Type 0} → Bool → ℕ → ℕ → A → ℕ → Read A
checked passes number at value place = cond passes (got value place) (bad number at)

-- a field that is read only if it is there
abbrev pub if_there : {A : Type 0} → Bool → (ℕ → Read A) → ℕ → Read (Option A)
if_there false read place = got None place
if_there true read place = then (read place) (λ value next. got (Some value) next)
