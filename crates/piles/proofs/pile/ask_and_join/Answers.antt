use mathlib.Core.Path.{◌≡◌, sym, ◌∙◌, ap}
use Prim.Native.Nat.{ℕ}
use Rattle.graph.specs.Shape.{Meaning, degree, next}
use Rattle.graph.specs.Joining.{join_answer, join_meaning}
use Rattle.piles.specs.Piles.{looks_of, graph_of}
use Rattle.piles.proofs.Below.{pile_kept, pile_below, pile_means}
use Rattle.piles.proofs.pile.ask_and_join.Goals as goal

pub returns : goal.returns
returns g c =
    let means = g.G.Graph.means in
    let leaves = g.G.Graph.leaves in
    let u : ℕ = c.args.u in
    let v : ℕ = c.args.v in
    let p = c.piled-pile.result in
    let q = c.join-join.new.self in
    let el : looks_of p ≡ c.args.looks = c.piled-pile.ensures.looks in
    let eg : graph_of p ≡ c.args.graph = c.piled-pile.ensures.graph in
    let eb : c.unpiled.result ≡ graph_of q = c.unpiled.ensures in
    let seen = pile_means means leaves u v p c.args.looks c.args.graph el eg in
    let kept = pile_kept means leaves u v p q g.G.Graph.lawful c.join-join.ensures.left in
    record {
      size = c.size-size.ensures ∙ ap (λ (m : Meaning). m.shape.size) seen;
      stands = c.stands-u_stands.ensures ∙ ap (λ (m : Meaning). m.shape.stands u) seen;
      joined = c.joined-joined.ensures ∙ ap (λ (m : Meaning). m.shape.joined u v) seen;
      degree = c.degree-u_degree.ensures ∙ ap (λ (m : Meaning). degree m.shape u) seen;
      next = c.next-next.ensures ∙ ap (λ (m : Meaning). next m.shape u v) seen;
      join = c.join-join.ensures.answer ∙ ap (λ (m : Meaning). join_answer m u v) seen;
      seen = sym (pile_means means leaves u v q c.args.looks c.unpiled.result (kept.0 ∙ el) (sym eb))
          ∙ (c.join-join.ensures.after ∙ ap (λ (m : Meaning). join_meaning m u v) seen);
      below = pile_below means leaves u v p q c.args.looks c.args.graph c.unpiled.result el eg eb g.G.Graph.joins kept;
    }
