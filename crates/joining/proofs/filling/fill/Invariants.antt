use Rattle.code.specs.Codes.{rows_of}
use Rattle.allocation.specs.Interference.{edges_below}
use Rattle.joining.specs.Chains.{JoinedOn}
use Rattle.joining.proofs.Lists.{SoFar}
use Rattle.joining.proofs.filling.fill.Given as goal

abbrev pub invariant-loop-place : goal.invariant-loop-place
invariant-loop-place g l =
    SoFar (g.G.Graph.means l.initial.graph) (g.G.Graph.means l.graph) (edges_below (rows_of l.code) l.code.numbers l.place) ×
    JoinedOn g.G.Graph.leaves l.initial.graph l.graph
