-- The rule that a record breaks, in a few words.
use Rattle.std.specs.Prelude.{ℕ, List, codes}
use Rattle.fields.specs.declared.fault.RecordFault.{RecordFault}
use Rattle.fields.specs.declared.fault.RecordFault.TheVariants.{EndsEarly, SlotTooFar, UnknownKind, NotInUse, BetweenClasses, TargetTooFar}

abbrev pub record_rule : RecordFault → List ℕ
record_rule (EndsEarly at) = codes "the input ends early"
record_rule (SlotTooFar at) = codes "slot too far"
record_rule (UnknownKind at) = codes "unknown kind or map"
record_rule (NotInUse at) = codes "operand not in use"
record_rule (BetweenClasses at) = codes "move between classes"
record_rule (TargetTooFar at) = codes "target too far"
