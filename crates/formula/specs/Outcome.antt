-- What the calls answer, as readings.
use Rattle.std.specs.Prelude.{◌≡◌, ℕ, ◌+◌, Bool, true, false, List, length, Ok, Err, Result}
use Rattle.code.specs.Codes.{rows_of}
use Rattle.fields.specs.Faults as records
use Rattle.fields.specs.Reading.{Read, got, bad}
use Rattle.fields.specs.declared.fault.RecordFault.{RecordFault}
use Rattle.liveness.specs.Laws.{AllDefined}
use Rattle.liveness.specs.Ways.{LowestUndefined}
use Rattle.formula.specs.Faults.{number_of, place_of}
use Rattle.formula.specs.Formulas as formulas
use Rattle.formula.specs.Headers as headers
use Rattle.formula.specs.Starts.{starts_from}
use Rattle.formula.specs.declared.fault.FormulaFault.{FormulaFault}
use Rattle.formula.specs.declared.fault.FormulaFault.TheVariants.{OutOfRange}
use Rattle.formula.specs.declared.formula.Formula.{Formula}
use Rattle.formula.specs.declared.formula.rows.Body.{Body}
use Rattle.formula.specs.declared.header.Header.{Header}

-- a value or a fault, where reading a value ends at this place
abbrev pub read_as : {A B : Type 0} → (A → B) → Result A FormulaFault → ℕ → Read B
read_as meaning (Ok value) next = got (meaning value) next
read_as meaning (Err fault) next = bad (number_of fault) (place_of fault)

-- a number that passes its check, or the fault that the field at this place is out of range
abbrev pub kept : {A : Type 0} → Bool → A → ℕ → Result A FormulaFault
kept true n at = Ok n
kept false n at = Err (OutOfRange at)

-- a header, which ends behind the classes, or a fault
abbrev pub header_read : Result Header FormulaFault → Read headers.Fields
header_read (Ok h) = got (headers.header_fields h) (6 + headers.whole_bytes h.values)
header_read (Err fault) = bad (number_of fault) (place_of fault)

-- the rows of a formula, where they end and where the last one begins, or a fault
abbrev pub rows_read : Result Body RecordFault → Read formulas.Rows
rows_read (Ok b) = got (record { rows = rows_of b.code; last = b.last }) b.end
rows_read (Err fault) = bad (records.number_of fault) (records.place_of fault)

-- a formula by its meaning
abbrev pub meaning : Formula → formulas.Formula
meaning f = formulas.with_rows (headers.header_fields f.header) (rows_of f.code)

-- a formula, which ends with its bytes, or a fault
abbrev pub formula_read : List ℕ → Result Formula FormulaFault → Read formulas.Formula
formula_read bytes (Ok f) = got (meaning f) (length bytes)
formula_read bytes (Err fault) = bad (number_of fault) (place_of fault)

-- the place of each record's first byte
abbrev pub starts_of : Formula → List ℕ
starts_of f = starts_from (6 + headers.whole_bytes f.header.values) (rows_of f.code)

-- the last check of a formula that was read: no value may be live before the first row. Refusal 12 names the lowest that is
abbrev pub Answered : Read formulas.Formula → Result Formula FormulaFault → Type 0
Answered (bad number place) (Ok f) = ⊥
Answered (bad number place) (Err fault) = (number_of fault ≡ number) × (place_of fault ≡ place)
Answered (got written place) (Ok f) = (meaning f ≡ written) × AllDefined written.rows
Answered (got written place) (Err fault) = (number_of fault ≡ 12) × LowestUndefined written.rows (place_of fault)
