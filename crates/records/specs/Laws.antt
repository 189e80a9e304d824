-- What a sceptic wants to hear of reading one record.
use Rattle.std.specs.Prelude.{◌≡◌, ℕ, ◌+◌, List, length}
use Rattle.code.specs.Rows.{Fields}
use Rattle.code.specs.Writing.{row_bytes}
use Rattle.records.specs.Keeping.{Bytes, Keeps, Stands}
use Rattle.fields.specs.Reading.{got}
use Rattle.records.specs.Records.{record_at}
use Rattle.fields.specs.declared.limits.Limits.{Limits}

-- a record is read at a place, to the end of its writing, exactly when its writing stands there and it keeps the rules
abbrev pub ReadsWritings : Limits → List ℕ → ℕ → Type 0
ReadsWritings l input at = Bytes input → (f : Fields)
    → ((q : ℕ) → record_at l input at ≡ got f q → (q ≡ at + length (row_bytes f)) × Stands input at (row_bytes f) × Keeps l f)
    × (Keeps l f → Stands input at (row_bytes f) → record_at l input at ≡ got f (at + length (row_bytes f)))
