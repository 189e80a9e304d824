use Rattle.std.proofs.Common.{◌≡◌, ◌-◌}
use Rattle.graph.specs.Counting.{first}
use Rattle.matrix.specs.Rows.{above}
use Rattle.matrix.proofs.rows.first_above.Given as goal

abbrev pub invariant-loop-v : goal.invariant-loop-v
invariant-loop-v l = first (above l.bits l.u) l.initial.v (l.n - l.initial.v) ≡ first (above l.bits l.u) l.v (l.n - l.v)
