use Rattle.std.proofs.Common.{◌≡◌, ◌+◌}
use Rattle.matrix.specs.Rows.{between, above}
use Rattle.matrix.proofs.rows.ones_above.Given as goal

abbrev pub invariant-loop-v : goal.invariant-loop-v
invariant-loop-v l = l.found ≡ between (above l.bits l.u) (l.u + 1) l.v
