use Rattle.std.proofs.Common.{◌≡◌, ◌<◌, true, [], ◌∷◌, ◌++◌, length, take, replicate, length-take, sym, refl, ◌∙◌, arith}
use Rattle.std.proofs.lemmas.List.{length-replicate}
use Rattle.std.proofs.lemmas.Result.{err_from_is_err_and}
use Rattle.code.specs.Codes.{rows_of, takes}
use Rattle.code.specs.Rows.{fields}
use Rattle.fields.specs.Faults.{number_of, place_of}
use Rattle.records.specs.Keeping.{Bytes}
use Rattle.fields.specs.Reading.{got, bad}
use Rattle.records.specs.Records.{record_at}
use Rattle.records.proofs.RoundTrip.{record_sound}
use Rattle.formula.proofs.Granting.{granted}
use Rattle.formula.proofs.SoFar.{so_far_none, so_far_more, so_far_bad}
use Rattle.formula.proofs.formula.rows.read_rows.Goals as goal

pub returns-in_err-record-clause-value : goal.returns-in_err-record-clause-value
returns-in_err-record-clause-value c =
    let p = err_from_is_err_and c.from_residual.result c.from_residual.ensures.1 in
    let fault = c.in_err-record.field-0.0 in
    let e : record_at c.args.limits.now c.args.bytes.now c.loop-start.reader.at ≡ bad (number_of fault) (place_of fault) =
    rw (← c.loop-start.invariant.1) (sym c.in_err-record.ensures.value) in
    let less : c.loop-start.start-index < c.args.code.reach = omega arith in
    rw (p.1, p.2) (sym (so_far_bad c.loop-start.invariant.0 less e))

pub loop-start-preserved : goal.loop-start-preserved
loop-start-preserved c =
    let so = c.loop-start.invariant.0 in
    let row = c.to_row-row.result in
    let ok : Bytes c.args.bytes.now = λ k. omega (arith, c.type_inv.bytes k) in
    let e : record_at c.args.limits.now c.args.bytes.now c.loop-start.reader.at ≡ got (fields row) c.record.new.self.at =
    rw (← c.loop-start.invariant.1, c.to_row-row.ensures) (sym c.in_ok-record.ensures.value) in
    let kept = record_sound c.args.bytes.now ok c.args.limits.now c.loop-start.reader.at (fields row) c.record.new.self.at e in
    let room : length (rows_of c.loop-start.code) < c.loop-start.code.reach = omega arith in
    let taken : takes c.loop-start.code row ≡ true =
    granted c.args.limits.now c.loop-start.code row c.requires.banks.0 c.requires.banks.1 (so.reached ∙ c.requires.targets) (so.numbered ∙ c.requires.numbers) room kept.2 in
    let rows : rows_of c.push-granted.new.self ≡ rows_of c.loop-start.code ++ (fields row ∷ []) =
    c.push-granted.ensures.rows ∙ rw (c.push-granted.ensures.granted ∙ taken) refl in
    let less : c.loop-start.start-index < c.args.code.reach = omega arith in (
      rw (c.place-last.ensures, c.goes_nowhere-closed.ensures)
          (so_far_more so ok less e rows c.push-granted.ensures.reach c.push-granted.ensures.numbers),
      c.record.ensures.bytes ∙ c.loop-start.invariant.1,
    )

pub loop-start-init : goal.loop-start-init
loop-start-init c =
    let code = c.args.code in (
      rw c.new-reader.ensures.1 (so_far_none c.args.limits.now c.args.bytes.now c.args.at code.reach code.numbers code.reach
          code (take c.reach-count.result (replicate 128 0)) c.requires.empty refl refl (grind (arith, length-take, length-replicate))),
      c.new-reader.ensures.0,
    )

pub returns-clause-value : goal.returns-clause-value
returns-clause-value c =
    let so = c.loop-start.invariant.0 in
    let all : c.loop-start.start-index ≡ c.args.code.reach = omega (arith, so.whole) in
    rw (c.place.ensures, ← all) (sym so.value)
