-- The rule that a refusal stands for, in a few words.
use Rattle.std.specs.Prelude.{ℕ, List, codes}
pub use Rattle.fields.specs.Words.{record_rule}
use Rattle.formula.specs.declared.fault.FormulaFault.{FormulaFault}
use Rattle.formula.specs.declared.fault.FormulaFault.TheVariants.{Record, OutOfRange, PaddingSet, BytesRemain, LastGoesOn, UsedBeforeSet}

abbrev pub rule : FormulaFault → List ℕ
rule (Record fault) = record_rule fault
rule (OutOfRange at) = codes "header field out of range"
rule (PaddingSet at) = codes "padding bit set"
rule (BytesRemain at) = codes "bytes remain"
rule (LastGoesOn at) = codes "the last record goes on"
rule (UsedBeforeSet value) = codes "used before it is set"
