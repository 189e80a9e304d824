-- How a whole formula is read: the header, the records, and then that nothing is left and that the last record goes nowhere.
use Rattle.std.specs.Prelude.{ℕ, zero, suc, Bool, false, cond, List, [], ◌∷◌, ◌++◌, length, nat_lt}
pub use Rattle.code.specs.Codes.{goes_nowhere}
use Rattle.code.specs.Rows.{Fields}
use Rattle.fields.specs.Reading.{Read, got, bad, then}
use Rattle.records.specs.Records.{record_at}
use Rattle.fields.specs.declared.limits.Limits.{Limits}
use Rattle.formula.specs.Headers as headers
use Rattle.formula.specs.Headers.{header_at, limits_of}

-- records that were read, and the place of the last one's first byte
pub record Rows : Type 0 where
  pub rows : List Fields
  pub last : ℕ

-- one record more
abbrev pub next_row : Limits → List ℕ → Rows → ℕ → Read Rows
next_row l bytes r place = then (record_at l bytes place) (λ f next. got (record { rows = r.rows ++ (f ∷ []); last = place }) next)

-- so many records from a place on: all but the last, and then that one
abbrev pub rows_at : Limits → List ℕ → ℕ → ℕ → Read Rows
rows_at l bytes place zero = got (record { rows = []; last = place }) place
rows_at l bytes place (suc n) = then (rows_at l bytes place n) (next_row l bytes)

-- whether the last row is a jump or an end
abbrev pub closed : List Fields → Bool
closed [] = false
closed (f ∷ []) = goes_nowhere f
closed (f ∷ g ∷ fs) = closed (g ∷ fs)

-- a formula: registers in use of each class, how many values there are and their classes, and the rows
pub record Formula : Type 0 where
  pub k0 : ℕ
  pub k1 : ℕ
  pub values : ℕ
  pub classes : ℕ
  pub rows : List Fields

abbrev pub with_rows : headers.Fields → List Fields → Formula
with_rows h rows = record { k0 = h.k0; k1 = h.k1; values = h.values; classes = h.classes; rows = rows }

-- bytes that remain behind the place are refusal 10, a last record that goes on is refusal 11
abbrev pub ended : ℕ → ℕ → Bool → ℕ → Read (Unit {0})
ended len place shut last = cond (nat_lt place len) (bad 10 place) (cond shut (got tt len) (bad 11 last))

-- the formula of a header and the rows behind it
abbrev pub finished : List ℕ → headers.Fields → Rows → ℕ → Read Formula
finished bytes h r place =
    then (ended (length bytes) place (closed r.rows) r.last) (λ _ end. got (with_rows h r.rows) end)

unfoldable pub formula_at : List ℕ → Read Formula
formula_at bytes =
    then (header_at bytes) (λ h place.
    then (rows_at (limits_of h) bytes place h.records) (finished bytes h))
