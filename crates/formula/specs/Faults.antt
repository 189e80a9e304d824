-- Every fault of a formula by its number and the place that it names.
use Rattle.std.specs.Prelude.{ℕ}
use Rattle.fields.specs.Faults as records
use Rattle.formula.specs.declared.fault.FormulaFault.{FormulaFault}
use Rattle.formula.specs.declared.fault.FormulaFault.TheVariants.{Record, OutOfRange, PaddingSet, BytesRemain, LastGoesOn, UsedBeforeSet}

abbrev pub number_of : FormulaFault → ℕ
number_of (Record fault) = records.number_of fault
number_of (OutOfRange at) = 4
number_of (PaddingSet at) = 5
number_of (BytesRemain at) = 10
number_of (LastGoesOn at) = 11
number_of (UsedBeforeSet value) = 12

abbrev pub place_of : FormulaFault → ℕ
place_of (Record fault) = records.place_of fault
place_of (OutOfRange at) = at
place_of (PaddingSet at) = at
place_of (BytesRemain at) = at
place_of (LastGoesOn at) = at
place_of (UsedBeforeSet value) = value
