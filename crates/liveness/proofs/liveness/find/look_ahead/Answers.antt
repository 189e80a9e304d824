use Rattle.std.proofs.Common.{◌<◌, ◌≢◌, length, inl, inr, arith, below_more, length-set}
use Rattle.std.proofs.lemmas.Bool.{cases_lt}
use Rattle.liveness.proofs.Finding.{ahead_beyond}
use Rattle.liveness.proofs.Members.{in_set_same, in_set_other}
use Rattle.liveness.proofs.liveness.find.look_ahead.Goals as goal

pub loop-place-preserved : goal.loop-place-preserved
loop-place-preserved c =
    let inside : c.loop-place.place < length c.loop-place.after = omega arith in (
      simp length-set c.loop-place.invariant.0,
      below_more _ c.loop-place.place
          (λ i h v. let ne : i ≢ c.loop-place.place = omega arith in rw (in_set_other _ _ _ v _ ne) (c.loop-place.invariant.1 i h v))
          (λ v. rw (in_set_same _ _ v _ inside) (c.set_after.ensures v)),
    )

pub returns : goal.returns
returns c = λ i v.
    elim (cases_lt i 512) [
      | inl l ↦ c.loop-place.invariant.1 i (omega arith) v
      | inr past ↦ ahead_beyond c.args.code.now c.args.before.now c.loop-place.after c.loop-place.invariant.0 i v past
    ]
