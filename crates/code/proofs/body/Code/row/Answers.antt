use Rattle.std.proofs.Common.{◌≡◌, take, slice_get, arith}
use Rattle.std.proofs.lemmas.Grind.{common_steps}
use Rattle.std.proofs.lemmas.Option.{slice_get-map, slice_get_cases}
use Rattle.code.specs.Codes.{rows_of}
use Rattle.code.specs.Rows.{fields}
use Rattle.code.proofs.Asking.{row_within}
use Rattle.code.proofs.body.Code.row.Goals as goal

pub returns : goal.returns
unfolding rows_of
returns c =
    let rows = take c.args.self.now.len c.args.self.now.rows in
    let kept : c.copied.result ≡ slice_get rows c.args.place = grind (arith, common_steps, slice_get_cases rows c.args.place) in
    let mapped = slice_get-map fields rows c.args.place in
    record { value = cc; bound = row_within c.args.self.now c.args.place c.copied.result kept }
