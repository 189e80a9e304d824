-- How a formula is written as bytes, and the rules that it keeps, apart from how it is read.
use Rattle.std.specs.Prelude.{◌≡◌, ℕ, zero, suc, ◌/◌, ◌%◌, ◌^◌, ◌<◌, ◌≤◌, true, List, [], ◌∷◌, ◌++◌, length, None}
use Rattle.code.specs.Rows.{Fields}
use Rattle.code.specs.Writing.{two_bytes, rows_bytes}
use Rattle.records.specs.Keeping as records
use Rattle.fields.specs.declared.limits.Limits.{Limits}
use Rattle.formula.specs.Formulas.{Formula, closed}
use Rattle.formula.specs.Headers.{whole_bytes}

-- a number as so many bytes, the lowest first
abbrev pub bytes_of : ℕ → ℕ → List ℕ
bytes_of zero n = []
bytes_of (suc k) n = n % 256 ∷ bytes_of k (n / 256)

abbrev pub header_bytes : Formula → List ℕ
header_bytes f =
    f.k0 ∷ f.k1 ∷ (two_bytes f.values ++ (two_bytes (length f.rows) ++ bytes_of (whole_bytes f.values) f.classes))

-- the header, with the classes as bits, and then the records
abbrev pub formula_bytes : Formula → List ℕ
formula_bytes f = header_bytes f ++ rows_bytes f.rows

-- what the records of a formula may hold: no slots
abbrev pub limits : Formula → Limits
limits f =
    record { k0 = f.k0; k1 = f.k1; values = f.values; classes = f.classes; targets = length f.rows; slots = None }

-- each record keeps the rules of its own
abbrev pub AllKeep : Limits → List Fields → Type 0
AllKeep l [] = Unit {0}
AllKeep l (f ∷ fs) = records.Keeps l f × AllKeep l fs

-- the rules that a formula keeps
pub record Keeps (f : Formula) : Type 0 where
  pub k0_least : 1 ≤ f.k0
  pub k0_most : f.k0 ≤ 16
  pub k1_least : 1 ≤ f.k1
  pub k1_most : f.k1 ≤ 16
  pub few_values : f.values ≤ 96
  pub some_rows : 1 ≤ length f.rows
  pub few_rows : length f.rows ≤ 128
  -- no class bit beyond the values
  pub class_bits : f.classes < 2 ^ f.values
  pub rows : AllKeep (limits f) f.rows
  -- the last record is a jump or an end
  pub last : closed f.rows ≡ true
