use Rattle.std.proofs.Common.{Decides, subst}
use Rattle.graph.specs.Shape.{Shape}
use Rattle.session_laws.specs.Base.{fixed}
use Rattle.session_laws.specs.Emptying.{CanBeEmptied}
use Rattle.kept.specs.Kept.{base_of}
use Rattle.kept.proofs.Facts.{graph_is}
use Rattle.kept.proofs.kept.Kept.can_be_emptied.Goals as goal

pub returns : goal.returns
unfolding base_of
returns c =
    let k = c.args.self.now in
    subst (λ (g : Shape). Decides c.can_be_emptied.result (CanBeEmptied (fixed (base_of k)) (base_of k).registers g)) (graph_is k) c.can_be_emptied.ensures.exactly
