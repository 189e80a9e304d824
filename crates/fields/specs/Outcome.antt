-- What the readers of fields answer, as readings.
use Rattle.std.specs.Prelude.{ℕ, Ok, Err, Result}
use Rattle.fields.specs.Faults.{number_of, place_of}
use Rattle.fields.specs.Reading.{Read, got, bad}
use Rattle.fields.specs.declared.fault.RecordFault.{RecordFault}

-- a value or a fault, where reading a value ends at this place
abbrev pub read_as : {A B : Type 0} → (A → B) → Result A RecordFault → ℕ → Read B
read_as meaning (Ok value) next = got (meaning value) next
read_as meaning (Err fault) next = bad (number_of fault) (place_of fault)

abbrev pub itself : ℕ → ℕ
itself n = n
