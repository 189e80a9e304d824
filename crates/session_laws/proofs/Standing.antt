-- What stands and what is joined in the graphs of a session. Assumes nothing.
use Rattle.std.proofs.Common.{◌≡◌, ℕ, ◌<◌, true, false, not, ◌&&◌, eqb, List, ◌∙◌}
use Rattle.std.proofs.lemmas.Bool.{and_parts, and_from, eqb-true, eqb-false, eq-eqb, ne_eqb, not-true, not_from_false}
use Rattle.graph.specs.Shape.{Shape, Lawful}
use Rattle.graph.specs.Views.{merged_view, removed_view, groups_joined, names_group}
use Rattle.graph.proofs.Keeping.{removed_is_view}
use Rattle.graph.proofs.Merging.{merged_is_view, groups_witness, groups_from}
use Rattle.session_laws.specs.Base.{Base, SoundBase, fixed}
use Rattle.session_laws.specs.State.{State, listed, merged_graph, standing_graph, is_loose}

pub merged_lawful : (b : Base) → SoundBase b → (s : State) → Lawful (merged_graph b s)
merged_lawful b sb s = (merged_is_view s.table).keeps_laws b.graph sb.lawful

pub standing_lawful : (b : Base) → SoundBase b → (s : State) → Lawful (standing_graph b s)
standing_lawful b sb s = (removed_is_view (listed s.removed)).keeps_laws (merged_graph b s) (merged_lawful b sb s)

pub loose_inside : (b : Base) → SoundBase b → (s : State) (v : ℕ) → is_loose b s v ≡ true → v < b.graph.size
loose_inside b sb s v h = (standing_lawful b sb s).inside v (and_parts ((standing_graph b s).stands v) (not (fixed b v)) h).0

-- The name of a group: a vertex that the table maps to itself.
pub record Name (table : ℕ → ℕ) (g : Shape) (v : ℕ) : Type 0 where
  pub is_vertex : g.stands v ≡ true
  pub is_own : table v ≡ v

pub name_parts : (table : ℕ → ℕ) (g : Shape) (v : ℕ) → names_group table g v ≡ true → Name table g v
name_parts table g v h =
    let p = and_parts (g.stands v) (eqb (table v) v) h in record { is_vertex = p.0; is_own = eqb-true _ _ p.1 }

pub name_from : (table : ℕ → ℕ) (g : Shape) (v : ℕ) → Name table g v → names_group table g v ≡ true
name_from table g v n = and_from (g.stands v) (eqb (table v) v) n.is_vertex (eq-eqb _ _ n.is_own)

-- Two groups that a pair of their members joins.
pub record GroupsMeet (table : ℕ → ℕ) (g : Shape) (u v : ℕ) : Type 0 where
  pub one_name : Name table g u
  pub other_name : Name table g v
  pub two : u ≡ v → ⊥
  pub near : ℕ
  pub far : ℕ
  pub near_of : table near ≡ u
  pub far_of : table far ≡ v
  pub met : g.joined near far ≡ true

pub meet_parts : (table : ℕ → ℕ) (g : Shape) (u v : ℕ) → (merged_view table g).joined u v ≡ true → GroupsMeet table g u v
meet_parts table g u v h =
    let p = and_parts ((names_group table g u && names_group table g v) && not (eqb u v)) (groups_joined table g u v) h in
    let q = and_parts (names_group table g u && names_group table g v) (not (eqb u v)) p.0 in
    let r = and_parts (names_group table g u) (names_group table g v) q.0 in
    let w = groups_witness table g u v p.1 in
    record {
      one_name = name_parts table g u r.0;
      other_name = name_parts table g v r.1;
      two = eqb-false u v (not-true _ q.1);
      near = w.0;
      far = w.1.0;
      near_of = w.1.1.a_of;
      far_of = w.1.1.b_of;
      met = w.1.1.linked;
    }

pub meet_from : (table : ℕ → ℕ) (g : Shape) → Lawful g → (u v : ℕ) → GroupsMeet table g u v → (merged_view table g).joined u v ≡ true
meet_from table g l u v m =
    and_from ((names_group table g u && names_group table g v) && not (eqb u v)) (groups_joined table g u v)
    (and_from (names_group table g u && names_group table g v) (not (eqb u v))
    (and_from (names_group table g u) (names_group table g v) (name_from table g u m.one_name) (name_from table g v m.other_name))
    (not_from_false _ (ne_eqb u v m.two)))
    (groups_from table g u v m.near m.far (record {
      a_inside = l.inside _ (l.standing _ _ m.met);
      b_inside = l.inside _ (l.standing _ _ (l.symmetric _ _ ∙ m.met));
      a_of = m.near_of;
      b_of = m.far_of;
      linked = m.met;
    }))

-- what is not removed
pub kept_stands : (r : List ℕ) (g : Shape) (v : ℕ) → (removed_view (listed r) g).stands v ≡ true → (g.stands v ≡ true) × (listed r v ≡ false)
kept_stands r g v h = let p = and_parts (g.stands v) (not (listed r v)) h in (p.0, not-true _ p.1)

pub keep_stands : (r : List ℕ) (g : Shape) (v : ℕ) → g.stands v ≡ true → listed r v ≡ false → (removed_view (listed r) g).stands v ≡ true
keep_stands r g v h e = and_from (g.stands v) (not (listed r v)) h (not_from_false _ e)

pub kept_joined : (r : List ℕ) (g : Shape) (u v : ℕ) → (removed_view (listed r) g).joined u v ≡ true →
    (g.joined u v ≡ true) × (listed r u ≡ false) × (listed r v ≡ false)
kept_joined r g u v h =
    let p = and_parts (g.joined u v) (not (listed r u) && not (listed r v)) h in
    let q = and_parts (not (listed r u)) (not (listed r v)) p.1 in
    (p.0, not-true _ q.0, not-true _ q.1)

pub keep_joined : (r : List ℕ) (g : Shape) (u v : ℕ) → g.joined u v ≡ true → listed r u ≡ false → listed r v ≡ false →
    (removed_view (listed r) g).joined u v ≡ true
keep_joined r g u v h hu hv =
    and_from (g.joined u v) (not (listed r u) && not (listed r v)) h
    (and_from (not (listed r u)) (not (listed r v)) (not_from_false _ hu) (not_from_false _ hv))

-- a vertex of the standing graph: a vertex of the session that names its group and is not removed
pub record Stands (b : Base) (s : State) (v : ℕ) : Type 0 where
  pub name : Name s.table b.graph v
  pub is_kept : listed s.removed v ≡ false

pub stands_parts : (b : Base) (s : State) (v : ℕ) → (standing_graph b s).stands v ≡ true → Stands b s v
stands_parts b s v h =
    let p = kept_stands s.removed (merged_graph b s) v h in record { name = name_parts s.table b.graph v p.0; is_kept = p.1 }

pub stands_from : (b : Base) (s : State) (v : ℕ) → Stands b s v → (standing_graph b s).stands v ≡ true
stands_from b s v h = keep_stands s.removed (merged_graph b s) v (name_from s.table b.graph v h.name) h.is_kept
