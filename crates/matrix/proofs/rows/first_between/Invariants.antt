use Rattle.std.proofs.Common.{◌≡◌, ◌-◌}
use Rattle.graph.specs.Counting.{first}
use Rattle.matrix.specs.Layout.{bit_at}
use Rattle.matrix.proofs.rows.first_between.Given as goal

abbrev pub invariant-loop-at : goal.invariant-loop-at
invariant-loop-at l = first (bit_at l.bits) l.from (l.to - l.from) ≡ first (bit_at l.bits) l.at (l.to - l.at)

abbrev pub decreases-loop-at : goal.decreases-loop-at
decreases-loop-at l = l.to - l.at
