use Rattle.std.proofs.Common.{◌≡◌, false, ◌||◌, eqb, leb, sym, ap, ◌∙◌}
use Rattle.edges.specs.Keys.{key}
use Rattle.edges.specs.Table.{found_at, landing}
use Rattle.edges.proofs.Finding.{found_key}
use Rattle.edges.proofs.Joining.{joined_key}
use Rattle.graph.proofs.Pairs.{two_inside}
use Rattle.edges.proofs.Places.{key_some}
use Rattle.edges.proofs.store.EdgeTableGraph.joined.Goals as goal

pub returns : goal.returns
returns c =
    let m = c.args.self.now in
    let u = c.args.u in
    let v = c.args.v in
    let outside : ((leb m.n u || leb m.n v) || eqb u v) ≡ false = c.if-u-self.false in
    let t = two_inside m.n u v outside in
    c.finds.ensures
    ∙ (ap (λ k. found_at m.words.now k (landing m.words.now k)) c.key_of.ensures
    ∙ (found_key m.words.now (key u v) m.gapless (key_some u v t.2)
    ∙ sym (joined_key m.n m.words.now u v t.0 t.1 t.2)))
