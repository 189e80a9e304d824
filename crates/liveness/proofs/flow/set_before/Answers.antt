use Rattle.std.proofs.Common.{sym, ◌∙◌}
use Rattle.code.specs.Codes.{rows_of}
use Rattle.code.specs.Rows.{fields}
use Rattle.liveness.proofs.Places.{asked_at, asked_past, first_fits, second_fits}
use Rattle.liveness.proofs.flow.set_before.Goals as goal

pub before_row-requires : goal.before_row-requires
before_row-requires c =
    let fits = c.in-Some.ensures.bound in
    record {
      first = first_fits _ _ c.in-Some.row c.args.code.now.narrow fits;
      second = second_fits _ _ c.in-Some.row c.args.code.now.narrow fits;
    }

pub returns-in-Some : goal.returns-in-Some
returns-in-Some c = λ v.
    let at = asked_at (rows_of c.args.code.now) c.args.place (fields c.in-Some.row) (sym c.in-Some.ensures.value) c.args.before.now v in
    let here = c.before_row.ensures v in
    let next = c.after_row.ensures v in
    cc

pub returns-in-None : goal.returns-in-None
returns-in-None c = λ v.
    c.new.ensures v ∙ sym (asked_past (rows_of c.args.code.now) c.args.place (sym c.in-None.ensures.value) c.args.before.now v)
