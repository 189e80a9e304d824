-- Once the standing graph can be emptied, it can be after every call, and nothing need be pushed. Assumes nothing.
use Rattle.std.proofs.Common.{ℕ, ◌<◌, ◌≤◌, min, max, Bool, not, eqb, List, ◌∷◌, refl, arith}
use Rattle.std.proofs.lemmas.Bool.{and_parts, and_from, or_parts}
use Rattle.graph.specs.Shape.{Shape}
use Rattle.graph.specs.Views.{removed_view, merged_view}
use Rattle.graph.proofs.Keeping.{removed_is_view}
use Rattle.session_laws.specs.Base.{Base, SoundBase, fixed}
use Rattle.session_laws.specs.Emptying.{CanBeEmptied}
use Rattle.session_laws.specs.State.{State, listed, standing_graph, merged_graph, degree_in, Emptiable}
use Rattle.session_laws.specs.Calls.{Outcome, refused, noted, marked, simplified, frozen, pushed, together, apart, merged, coloured}
use Rattle.session_laws.specs.Grounds.{GrantedOn, PushedOn}
use Rattle.session_laws.specs.Runs.{left_by, united}
use Rattle.session_laws.specs.Invariants.{SoundState}
use Rattle.session_laws.proofs.Merges.{Merging, merge_emptied}
use Rattle.session_laws.proofs.Pairs.{Groups, groups_of}
use Rattle.session_laws.proofs.Standing.{standing_lawful, merged_lawful, kept_stands, keep_stands, kept_joined, keep_joined}
use Rattle.session_laws.proofs.Subgraphs.{PartOf, part_emptied, some_light}
use Rattle.session_laws.proofs.Uniting.{merged_merging, hidden_merging}

-- hiding one more vertex shows a part
less_shown : (fixed : ℕ → Bool) (g : Shape) (v : ℕ) (r : List ℕ) → PartOf fixed (removed_view (listed (v ∷ r)) g) (removed_view (listed r) g)
less_shown fixed g v r = record {
  size = refl;
  loose_in = λ w h.
      let p = and_parts ((removed_view (listed (v ∷ r)) g).stands w) (not (fixed w)) h in
      let q = kept_stands (v ∷ r) g w p.0 in
      and_from _ _ (keep_stands r g w q.0 (or_parts (eqb v w) (listed r w) q.1).1) p.1;
  joined_in = λ u w h.
      let q = kept_joined (v ∷ r) g u w h in
      keep_joined r g u w q.0 (or_parts (eqb v u) (listed r u) q.1).1 (or_parts (eqb v w) (listed r w) q.2).1;
}

removed_emptied : (b : Base) → SoundBase b → (s : State) (v : ℕ) → Emptiable b s →
    CanBeEmptied (fixed b) b.registers (removed_view (listed (v ∷ s.removed)) (merged_graph b s))
removed_emptied b sb s v e =
    part_emptied (fixed b) b.registers (removed_view (listed (v ∷ s.removed)) (merged_graph b s)) (standing_graph b s)
    ((removed_is_view (listed (v ∷ s.removed))).keeps_laws (merged_graph b s) (merged_lawful b sb s)) (standing_lawful b sb s)
    (less_shown (fixed b) (merged_graph b s) v s.removed) e

-- the graph after a merge is the graph before it with y gone into x
pub group_merging : (b : Base) → SoundBase b → (s : State) (u v x y : ℕ) → Groups b s u v x y →
    Merging (fixed b) (merged_graph b s) (merged_view (united s.table y x) b.graph) x y
group_merging b sb s u v x y g =
    merged_merging b.graph sb.lawful s.table x y g.x_stands.name g.y_stands.name
    (λ e. let lt : x < y = g.lower in omega arith) (fixed b) g.y_loose

pub standing_merging : (b : Base) → SoundBase b → (s : State) (u v x y : ℕ) → Groups b s u v x y →
    Merging (fixed b) (standing_graph b s) (removed_view (listed s.removed) (merged_view (united s.table y x) b.graph)) x y
standing_merging b sb s u v x y g =
    hidden_merging (fixed b) (merged_graph b s) (merged_view (united s.table y x) b.graph) x y s.removed
    g.x_stands.is_kept g.y_stands.is_kept (group_merging b sb s u v x y g)

united_emptied : (b : Base) → SoundBase b → (s : State) (u v x y : ℕ) → Groups b s u v x y → Emptiable b s →
    CanBeEmptied (fixed b) b.registers (removed_view (listed s.removed) (merged_view (united s.table y x) b.graph))
united_emptied b sb s u v x y g e =
    merge_emptied (fixed b) b.registers (standing_graph b s) _ x y (s.table u) (s.table v)
    (standing_merging b sb s u v x y g) g.names g.test e

pub keeps_emptied : (b : Base) → SoundBase b → (s : State) → SoundState b s → (o : Outcome) → GrantedOn b s o →
    Emptiable b s → Emptiable b (left_by s o)
unfolding left_by
keeps_emptied b sb s ss (refused k) g e = e
keeps_emptied b sb s ss (noted m u v) g e = e
keeps_emptied b sb s ss (marked v) g e = e
keeps_emptied b sb s ss (simplified v) g e = removed_emptied b sb s v e
keeps_emptied b sb s ss (frozen v) g e = e
keeps_emptied b sb s ss (pushed v) g e = removed_emptied b sb s v e
keeps_emptied b sb s ss (together m) g e = e
keeps_emptied b sb s ss (apart m) g e = e
keeps_emptied b sb s ss (merged m u v) g e =
    united_emptied b sb s u v (min (s.table u) (s.table v)) (max (s.table u) (s.table v)) (groups_of b sb s ss m u v g) e
keeps_emptied b sb s ss (coloured register) g e = e

pub no_push : (b : Base) → SoundBase b → (s : State) → Emptiable b s → (v : ℕ) → PushedOn b s v → ⊥
no_push b sb s e v g =
    let u = some_light (fixed b) b.registers (standing_graph b s) (standing_lawful b sb s) e v g.stays_loose in
    let few : degree_in b s u.0 < b.registers = u.2 in
    let many : b.registers ≤ degree_in b s u.0 = g.all_heavy u.0 u.1 in
    omega arith
