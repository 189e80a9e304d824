-- Every fault of a record by its number and the place that it names.
use Rattle.std.specs.Prelude.{ℕ}
use Rattle.fields.specs.declared.fault.RecordFault.{RecordFault}
use Rattle.fields.specs.declared.fault.RecordFault.TheVariants.{EndsEarly, SlotTooFar, UnknownKind, NotInUse, BetweenClasses, TargetTooFar}

abbrev pub number_of : RecordFault → ℕ
number_of (EndsEarly at) = 3
number_of (SlotTooFar at) = 4
number_of (UnknownKind at) = 6
number_of (NotInUse at) = 7
number_of (BetweenClasses at) = 8
number_of (TargetTooFar at) = 9

abbrev pub place_of : RecordFault → ℕ
place_of (EndsEarly at) = at
place_of (SlotTooFar at) = at
place_of (UnknownKind at) = at
place_of (NotInUse at) = at
place_of (BetweenClasses at) = at
place_of (TargetTooFar at) = at
