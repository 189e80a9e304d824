-- The laws hold of the definitions alone, whichever way the call returns.
use Rattle.formula.proofs.FormulaTrip.{accepts_writings, distinct_writings}
use Rattle.formula.proofs.WorkedCases.{worked}
use Rattle.formula.proofs.formula.read.read_formula.Goals as goal

pub returns-in_err-read_written-clause-accepts : goal.returns-in_err-read_written-clause-accepts
returns-in_err-read_written-clause-accepts c = accepts_writings

pub returns-in_err-read_written-clause-distinct : goal.returns-in_err-read_written-clause-distinct
returns-in_err-read_written-clause-distinct c = distinct_writings

pub returns-in_err-read_written-clause-worked : goal.returns-in_err-read_written-clause-worked
returns-in_err-read_written-clause-worked c = worked

pub returns-clause-accepts : goal.returns-clause-accepts
returns-clause-accepts c = accepts_writings

pub returns-clause-distinct : goal.returns-clause-distinct
returns-clause-distinct c = distinct_writings

pub returns-clause-worked : goal.returns-clause-worked
returns-clause-worked c = worked
