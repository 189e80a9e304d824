use Rattle.std.proofs.Common.{◌≡◌}
use Rattle.kept.specs.Kept.{base_of, state_of}
use Rattle.replay.proofs.Replays.{RunSoFar}
use Rattle.replay.proofs.running.replay.Given as goal

abbrev pub invariant-loop-i : goal.invariant-loop-i
invariant-loop-i g l =
    (l.session.graph ≡ l.initial.session.graph) ×
    (base_of l.session.kept ≡ base_of l.initial.session.kept) ×
    RunSoFar (base_of l.initial.session.kept) l.calls (state_of l.session.kept) l.initial.answers l.answers l.i
