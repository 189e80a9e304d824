use Rattle.std.proofs.Common.{◌≡◌, ℕ, ◌<◌, length}
use Rattle.code.specs.Codes.{rows_of}
use Rattle.liveness.specs.Families.{in_set, ahead}
use Rattle.liveness.proofs.liveness.find.look_ahead.Given as goal

abbrev pub invariant-loop-place : goal.invariant-loop-place
invariant-loop-place l =
    (length l.after ≡ 512) × ((i : ℕ) → i < l.place → (v : ℕ) → in_set l.after i v ≡ ahead (rows_of l.code) i (λ j. in_set l.before j v))
