use Rattle.std.proofs.Common.{sym, ◌∙◌}
use Rattle.code.specs.Codes.{rows_of}
use Rattle.code.specs.Rows.{fields}
use Rattle.liveness.proofs.Places.{ahead_at, ahead_past}
use Rattle.liveness.proofs.flow.set_after.Goals as goal

pub returns-in-Some : goal.returns-in-Some
returns-in-Some c = λ v.
    c.after_row.ensures v
    ∙ sym (ahead_at (rows_of c.args.code.now) c.args.place (fields c.in-Some.row) (sym c.in-Some.ensures.value) _)

pub returns-in-None : goal.returns-in-None
returns-in-None c = λ v.
    c.new.ensures v ∙ sym (ahead_past (rows_of c.args.code.now) c.args.place (sym c.in-None.ensures.value) _)
