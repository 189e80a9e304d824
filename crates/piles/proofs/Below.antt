-- What joining in a pile leaves of it, and of the graph under it. Assumes nothing.
use mathlib.Core.Path.{◌≡◌, refl, ◌∙◌, ap, subst}
use Prim.Native.Nat.{ℕ}
use Rattle.std.specs.Prelude.{Ok, Err, Result}
use Rattle.graph.specs.Shape.{Shape, Meaning, Lawful}
use Rattle.graph.specs.Joining.{judge_of, join_meaning}
use Rattle.graph.specs.Views.{View as IsView, over, HandedDown}
use Rattle.graph.specs.declared.pair.Pair.{Pair}
use Rattle.graph.specs.declared.pair.Pair.TheVariants.{Present, Fresh}
use Rattle.graph.specs.declared.refusal.Refusal.{Refusal}
use Rattle.graph.proofs.Joining.{fresh_under, handed_at, handed_map}
use Rattle.graph.proofs.Keeping.{class_is_view, removed_is_view}
use Rattle.graph.proofs.Clique.{clique_is_view}
use Rattle.graph.proofs.Merging.{merged_is_view}
use Rattle.views.specs.Groups.{group_at}
use Rattle.views.specs.Tables.{flag, class_at, class_by, clique_by, merged_by, removed_by}
use Rattle.views.specs.declared.class.ClassLook.{ClassLook}
use Rattle.views.specs.declared.clique.CliqueLook.{CliqueLook}
use Rattle.views.specs.declared.merged.MergedLook.{MergedLook}
use Rattle.views.specs.declared.removed.RemovedLook.{RemovedLook}
use Rattle.views.specs.declared.view.View.{View}
use Rattle.piles.specs.declared.looks.Looks.{Looks}
use Rattle.piles.specs.Piles.{Pile, pile_of, looks_of, graph_of}

-- what joining leaves of a view over any graph
abbrev Left : {L X : Type 0} (sees : L → Shape → Shape) (means : X → Meaning) (leaves : X → X → Type 0) (u v : ℕ) → View L X → View L X → Type 0
Left sees means leaves u v p q =
    (q.look ≡ p.look) × HandedDown (judge_of (sees p.look (means p.below).shape) u v) (q.below ≡ p.below) (leaves p.below q.below)

-- A graph that stands on another: where a new pair is joined in it, its looks stay, and the pair is joined in the one that it stands on.
record StandsOn {X K G : Type 0} (means : X → Meaning) (leaves : X → X → Type 0) (looks : X → K) (base : X → G) (joined : G → G → Type 0) (u v : ℕ) : Type 0 where
  lawful : (x : X) → Lawful (means x).shape
  reaches : (p q : X) → judge_of (means p).shape u v ≡ Ok Fresh → leaves p q → (looks q ≡ looks p) × joined (base p) (base q)

-- so does a view over it
view_on : {L X K G : Type 0} (sees : L → Shape → Shape) (is_view : (l : L) → IsView (sees l)) {means : X → Meaning} {leaves : X → X → Type 0} {looks : X → K} {base : X → G} {joined : G → G → Type 0} {u v : ℕ} →
    StandsOn means leaves looks base joined u v →
    StandsOn {X = View L X} {K = L × K} (λ p. over (sees p.look) (means p.below)) (Left sees means leaves u v) (λ p. (p.look, looks p.below)) (λ p. base p.below) joined u v
view_on sees is_view {means} {leaves} {u = u} {v = v} on = record {
  lawful = λ p. (is_view p.look).keeps_laws (means p.below).shape (on.lawful p.below);
  reaches = λ p q fresh left.
      let s : Shape = (means p.below).shape in
      let under = fresh_under (sees p.look) (is_view p.look) s u v (on.lawful p.below) fresh in
      let handed = handed_at (q.below ≡ p.below) (leaves p.below q.below) (judge_of (sees p.look s) u v) fresh left.1 in
      let rest = on.reaches p.below q.below under handed in
      ((λ i. (left.0 i, rest.0 i)), rest.1);
}

module _ {G : Type 0} (means : G → Meaning) (leaves : G → ℕ → ℕ → G → Type 0) (u v : ℕ) where
  abbrev class_sees : ClassLook → Shape → Shape
  class_sees l = class_by l.classes l.chosen

  abbrev clique_sees : CliqueLook → Shape → Shape
  clique_sees l = clique_by l.fixed

  abbrev merged_sees : MergedLook → Shape → Shape
  merged_sees l = merged_by l.table.to

  abbrev removed_sees : RemovedLook → Shape → Shape
  removed_sees l = removed_by l.gone

  abbrev classed : View ClassLook G → Meaning
  classed p = over (class_sees p.look) (means p.below)

  abbrev cliqued : View CliqueLook (View ClassLook G) → Meaning
  cliqued p = over (clique_sees p.look) (classed p.below)

  abbrev merged : View MergedLook (View CliqueLook (View ClassLook G)) → Meaning
  merged p = over (merged_sees p.look) (cliqued p.below)

  abbrev piled : Pile G → Meaning
  piled p = over (removed_sees p.look) (merged p.below)

  abbrev MergedLeft : (p q : View MergedLook (View CliqueLook (View ClassLook G))) → Type 0
  MergedLeft = Left merged_sees cliqued (Left clique_sees classed (Left class_sees means (λ g h. leaves g u v h) u v) u v) u v

  abbrev pub PileLeft : (p q : Pile G) → Type 0
  PileLeft = Left removed_sees merged MergedLeft u v

  -- the views are as they were, and only a pair that is new in the pile reaches the graph
  abbrev PileKept : (p q : Pile G) → Type 0
  PileKept p q = (looks_of q ≡ looks_of p)
      × HandedDown (judge_of (piled p).shape u v) (graph_of q ≡ graph_of p) (leaves (graph_of p) u v (graph_of q))

  same_looks : (p q : Pile G) → q.look ≡ p.look → q.below ≡ p.below → looks_of q ≡ looks_of p
  same_looks p q e f = λ i. record {
    classes = (f i).below.below.look.classes;
    chosen = (f i).below.below.look.chosen;
    fixed = (f i).below.look.fixed;
    table = (f i).look.table;
    gone = (e i).gone;
  }

  -- what the looks of a pile come to, the outermost first
  abbrev looks_from : RemovedLook × (MergedLook × (CliqueLook × (ClassLook × Unit {0}))) → Looks
  looks_from l = record {
    classes = l.1.1.1.0.classes;
    chosen = l.1.1.1.0.chosen;
    fixed = l.1.1.0.fixed;
    table = l.1.0.table;
    gone = l.0.gone;
  }

  pub pile_kept : (p q : Pile G) → ((g : G) → Lawful (means g).shape) → PileLeft p q → PileKept p q
  pile_kept p q lawful k = found (judge_of (piled p).shape u v) refl k.1
    where
      found : (j : Result Pair Refusal) → judge_of (piled p).shape u v ≡ j → HandedDown j (q.below ≡ p.below) (MergedLeft p.below q.below) →
          (looks_of q ≡ looks_of p) × HandedDown j (graph_of q ≡ graph_of p) (leaves (graph_of p) u v (graph_of q))
      found (Err r) e h = (same_looks p q k.0 h, ap (λ (b : View MergedLook (View CliqueLook (View ClassLook G))). b.below.below.below) h)
      found (Ok Present) e h = (same_looks p q k.0 h, ap (λ (b : View MergedLook (View CliqueLook (View ClassLook G))). b.below.below.below) h)
      found (Ok Fresh) e h =
          let graph : StandsOn {K = Unit {0}} means (λ g h. leaves g u v h) (λ _. tt) (λ g. g) (λ g h. leaves g u v h) u v =
          record { lawful = lawful; reaches = λ g h e left. (refl, left) } in
          let class = view_on class_sees (λ l. class_is_view (class_at l.classes) l.chosen) graph in
          let clique = view_on clique_sees (λ l. clique_is_view (flag l.fixed)) class in
          let merge = view_on merged_sees (λ l. merged_is_view (group_at l.table.to)) clique in
          let r = (view_on removed_sees (λ l. removed_is_view (flag l.gone)) merge).reaches p q e k in
          (ap looks_from r.0, r.1)

  -- the same of the graph that came in and the one that is handed back
  pub pile_below : (p q : Pile G) (looks : Looks) (graph back : G) → looks_of p ≡ looks → graph_of p ≡ graph → back ≡ graph_of q →
      ((g : G) (u v : ℕ) (after : G) → leaves g u v after → means after ≡ join_meaning (means g) u v) → PileKept p q →
      HandedDown (judge_of (pile_of looks (means graph).shape) u v) (back ≡ graph) (means back ≡ join_meaning (means graph) u v)
  pile_below p q looks graph back el eg eb joins k =
      let here : judge_of (piled p).shape u v ≡ judge_of (pile_of looks (means graph).shape) u v =
      λ i. judge_of (pile_of (el i) (means (eg i)).shape) u v in
      subst (λ (j : Result Pair Refusal). HandedDown j (back ≡ graph) (means back ≡ join_meaning (means graph) u v)) here
      (handed_map (judge_of (piled p).shape u v) {x = graph_of q ≡ graph_of p} {y = leaves (graph_of p) u v (graph_of q)}
      (λ h. eb ∙ (h ∙ eg))
      (λ h. ap means eb ∙ (joins (graph_of p) u v (graph_of q) h ∙ ap (λ (x : G). join_meaning (means x) u v) eg)) k.1)

  -- what the pile means, by what it goes by
  pub pile_means : (p : Pile G) (looks : Looks) (graph : G) → looks_of p ≡ looks → graph_of p ≡ graph →
      over (pile_of (looks_of p)) (means (graph_of p)) ≡ over (pile_of looks) (means graph)
  pile_means p looks graph el eg = λ i. over (pile_of (el i)) (means (eg i))
