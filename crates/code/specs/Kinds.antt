-- The kinds of rows and the maps they may have. A map says by its bits which fields a row has:
-- 01h destination, 02h first source, 04h second source, 08h target, 10h constant, 40h slot.
use Rattle.std.specs.Prelude.{ℕ, ◌/◌, ◌%◌, Bool, false, ◌&&◌, ◌||◌, List, [], ◌∷◌, ◌==◌, nat_le}

-- a kind beside a map that it may have
pub record Entry : Type 0 where
  pub kind : ℕ
  pub map : ℕ

abbrev entry : ℕ → ℕ → Entry
entry k m = record { kind = k; map = m }

-- constant, move, jump, branch, give, end
abbrev pub formula_kinds : List Entry
formula_kinds = entry 2 0x11 ∷ entry 3 0x03 ∷ entry 4 0x08 ∷ entry 5 0x0A ∷ entry 6 0x02 ∷ entry 7 0x00 ∷ []

-- load and store, which only code with slots may have
abbrev pub slot_kinds : List Entry
slot_kinds = entry 8 0x41 ∷ entry 9 0x42 ∷ []

-- every kind from 16 up is an operator: a destination and a first source, with or without a second source and a constant
abbrev pub operator_maps : List ℕ
operator_maps = 0x03 ∷ 0x07 ∷ 0x13 ∷ 0x17 ∷ []

abbrev pub listed : List Entry → ℕ → ℕ → Bool
listed [] k m = false
listed (e ∷ es) k m = (k == e.kind && m == e.map) || listed es k m

abbrev pub among : List ℕ → ℕ → Bool
among [] m = false
among (x ∷ xs) m = m == x || among xs m

-- whether m is a map of kind k; load and store have one only where slots may stand
abbrev pub own : Bool → ℕ → ℕ → Bool
own slots k m = (nat_le 16 k && among operator_maps m) || (listed formula_kinds k m || (slots && listed slot_kinds k m))

-- whether the map m has the field of this bit
abbrev pub has_field : ℕ → ℕ → Bool
has_field bit m = (m / bit) % 2 == 1
