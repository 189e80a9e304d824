use Rattle.liveness.proofs.sweep.settle.Given as goal

abbrev pub invariant-loop : goal.invariant-loop
invariant-loop g l = g.R.Rule.sound l.rule l.facts

abbrev pub decreases-loop : goal.decreases-loop
decreases-loop g l = g.R.Rule.left l.rule l.facts
