-- How rows are written as bytes. Numbers of two bytes have their lowest byte first.
use Rattle.std.specs.Prelude.{ℕ, ◌+◌, ◌/◌, ◌%◌, List, [], ◌∷◌, ◌++◌, Some, None, Option}
use Rattle.code.specs.Rows.{Fields}

abbrev pub two_bytes : ℕ → List ℕ
two_bytes n = n % 256 ∷ n / 256 ∷ []

-- a field that is there, by its own writing; one that is not, by nothing
abbrev pub if_there : {A : Type 0} → (A → List ℕ) → Option A → List ℕ
if_there write None = []
if_there write (Some a) = write a

abbrev pub bit_of : {A : Type 0} → ℕ → Option A → ℕ
bit_of bit None = 0
bit_of bit (Some a) = bit

-- the map: one bit for each field that is there
abbrev pub map_byte : Fields → ℕ
map_byte f =
    bit_of 0x01 f.destination + bit_of 0x02 f.first + bit_of 0x04 f.second + bit_of 0x08 f.target
    + bit_of 0x10 f.constant + bit_of 0x40 f.slot

-- the fields that are there, in this order
abbrev pub body_bytes : Fields → List ℕ
body_bytes f =
    if_there two_bytes f.destination ++ (if_there two_bytes f.first ++ (if_there two_bytes f.second
    ++ (if_there two_bytes f.target ++ (if_there (λ bytes. bytes) f.constant ++ if_there two_bytes f.slot))))

-- map and kind, then the fields
abbrev pub row_bytes : Fields → List ℕ
row_bytes f = map_byte f ∷ f.kind ∷ body_bytes f

abbrev pub rows_bytes : List Fields → List ℕ
rows_bytes [] = []
rows_bytes (f ∷ fs) = row_bytes f ++ rows_bytes fs
