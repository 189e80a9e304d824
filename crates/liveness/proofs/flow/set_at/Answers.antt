use Rattle.std.proofs.Common.{length, inl, inr, arith}
use Rattle.std.proofs.lemmas.Bool.{cases_lt}
use Rattle.std.proofs.lemmas.Grind.{common_steps}
use Rattle.liveness.proofs.Members.{in_set_past, in_set_at}
use Rattle.liveness.proofs.flow.set_at.Goals as goal

pub returns : goal.returns
returns c v =
    let family = c.args.family.now in
    let place = c.args.place in
    let out = c.unwrap_or_default.result in
    elim (cases_lt place (length family)) [
      | inl l ↦ let here = in_set_at family place v out l in grind (arith, common_steps)
      | inr past ↦ let none = in_set_past family place v past in grind (arith, common_steps)
    ]
