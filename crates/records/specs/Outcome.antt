-- What the reader's calls answer, as readings.
use Rattle.std.specs.Prelude.{ℕ, List, Option, Ok, Err, Result}
use Rattle.std.specs.Borrow.{Bor}
use Rattle.std.specs.Option.{option_map}
use Rattle.code.specs.Rows.{Fields, fields, by_value}
use Rattle.code.specs.declared.row.Row.{Row}
use Rattle.fields.specs.Faults.{number_of, place_of}
use Rattle.fields.specs.Reading.{Read, got, bad}
use Rattle.fields.specs.declared.fault.RecordFault.{RecordFault}
use Rattle.fields.specs.declared.place.Place.{Place}

-- a record as a row that keeps its fields by value; a constant is the bytes of the input that the record borrows
abbrev pub row_of : Row (Bor (List ℕ)) → Row (List ℕ)
row_of r = by_value r

-- a record by its kind and fields
abbrev pub record_fields : Row (Bor (List ℕ)) → Fields
record_fields r = fields (row_of r)

-- a record with the place behind it, or a fault
abbrev pub record_read : Result (Row (Bor (List ℕ)) × ℕ) RecordFault → Read Fields
record_read (Ok pair) = got (record_fields pair.0) pair.1
record_read (Err fault) = bad (number_of fault) (place_of fault)

-- a field that may be missing, with the place behind it, or a fault
abbrev pub part_read : {A B : Type 0} → (A → B) → Result (Option A × Place) RecordFault → Read (Option B)
part_read meaning (Ok pair) = got (option_map meaning pair.0) pair.1.at
part_read meaning (Err fault) = bad (number_of fault) (place_of fault)
