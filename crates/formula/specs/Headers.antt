-- How a formula's header is read: each field is read, then checked, before the next.
use Rattle.std.specs.Prelude.{ℕ, ◌+◌, ◌-◌, ◌*◌, ◌/◌, ◌^◌, ◌&&◌, List, [], ◌∷◌, None, nat_le, nat_lt}
use Rattle.fields.specs.Reading.{Read, got, then, byte, two, part, checked}
use Rattle.fields.specs.declared.limits.Limits.{Limits}
use Rattle.formula.specs.declared.header.Header.{Header}

-- a header: registers in use of class 0 and of class 1, values, records, and the classes of the values, the first as the lowest bit
pub record Fields : Type 0 where
  pub k0 : ℕ
  pub k1 : ℕ
  pub values : ℕ
  pub records : ℕ
  pub classes : ℕ

-- how many bytes so many bits take
abbrev pub whole_bytes : ℕ → ℕ
whole_bytes bits = (bits + 7) / 8

-- bytes as one number, the lowest first
abbrev pub number : List ℕ → ℕ
number [] = 0
number (b ∷ bytes) = b + 256 * number bytes

-- a number from low to high: refusal 4
abbrev pub ranged : ℕ → ℕ → (ℕ → Read ℕ) → ℕ → Read ℕ
ranged low high read at = then (read at) (λ n next. checked (nat_le low n && nat_le n high) 4 at n next)

-- the classes of so many values, one bit each; a bit set above them is refusal 5, at the byte that holds it
abbrev pub class_bits : ℕ → List ℕ → ℕ → Read ℕ
class_bits values bytes at =
    then (part (whole_bytes values) bytes at) (λ bits next. checked (nat_lt (number bits) (2 ^ values)) 5 (next - 1) (number bits) next)

unfoldable pub header_at : List ℕ → Read Fields
header_at bytes =
    then (ranged 1 16 (byte bytes) 0) (λ k0 p₁.
    then (ranged 1 16 (byte bytes) p₁) (λ k1 p₂.
    then (ranged 0 96 (two bytes) p₂) (λ values p₃.
    then (ranged 1 128 (two bytes) p₃) (λ records p₄.
    then (class_bits values bytes p₄) (λ classes p₅.
    got (record { k0 = k0; k1 = k1; values = values; records = records; classes = classes }) p₅)))))

-- what the records of a formula with this header may hold: no slots
abbrev pub limits_of : Fields → Limits
limits_of h = record { k0 = h.k0; k1 = h.k1; values = h.values; classes = h.classes; targets = h.records; slots = None }

abbrev pub header_fields : Header → Fields
header_fields h = record { k0 = h.k0; k1 = h.k1; values = h.values; records = h.records; classes = h.classes }
