use Rattle.std.proofs.Common.{◌≡◌, ℕ, ◌≤◌, map}
use Rattle.numbers.specs.Iterating.{source, place}
use Rattle.numbers.specs.Sets.{has}
use Rattle.allocation.specs.Interference.{edge, passing}
use Rattle.joining.specs.Chains.{JoinedOn}
use Rattle.joining.proofs.Lists.{SoFar}
use Rattle.joining.proofs.filling.join_all.Given as goal

abbrev pub invariant-loop-v : goal.invariant-loop-v
invariant-loop-v g l =
    ((v : ℕ) → has (source l.v-iterator) v ≡ has l.others v) × (place l.v-iterator ≤ l.n) ×
    SoFar (g.G.Graph.means l.initial.graph) (g.G.Graph.means l.graph) (map (edge l.u) (passing (has (source l.v-iterator)) (place l.v-iterator))) ×
    JoinedOn g.G.Graph.leaves l.initial.graph l.graph
