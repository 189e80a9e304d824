use Rattle.std.proofs.Common.{◌≡◌, ℕ, ◌<◌, ◌≤◌, true, false}
use Rattle.liveness.proofs.sweep.sweep.Given as goal

abbrev pub invariant-loop-place : goal.invariant-loop-place
invariant-loop-place g l =
    g.R.Rule.sound l.rule l.facts × (g.R.Rule.left l.rule l.facts ≤ g.R.Rule.left l.rule l.initial.facts)
    × (l.changed ≡ true → g.R.Rule.left l.rule l.facts < g.R.Rule.left l.rule l.initial.facts)
    × (l.changed ≡ false → (k : ℕ) → l.place ≤ k → k < g.R.Rule.rows l.rule → g.R.Rule.settled l.rule l.facts k)
