use Rattle.graph.specs.Counting.{count}
use Rattle.numbers.specs.Sets.{has}
use Rattle.standing.specs.Standing.{graph_of, fixed_in, registers_of, loose_in}
use Rattle.standing.proofs.Emptying.{Peeled}
use Rattle.standing.proofs.standing.Standing.can_be_emptied.Given as goal

abbrev pub invariant-loop-v : goal.invariant-loop-v
invariant-loop-v l = Peeled (fixed_in l.self) (registers_of l.self) (graph_of l.self) (loose_in l.self) (has l.rest)

abbrev pub decreases-loop-v : goal.decreases-loop-v
decreases-loop-v l = count (has l.rest) (graph_of l.self).size
