-- Merging two groups in the merge table merges their two vertices in the graph. Assumes nothing.
use Rattle.std.proofs.Common.{◌≡◌, ℕ, Bool, true, false, eqb, ◌⊎◌, List, sym, refl, ap, ◌∙◌, inl, inr}
use Rattle.std.proofs.lemmas.Bool.{cases_eq, eq-eqb, ne_eqb}
use Rattle.graph.specs.Shape.{Shape, Lawful}
use Rattle.graph.specs.Views.{merged_view, removed_view}
use Rattle.graph.proofs.Keeping.{removed_is_view}
use Rattle.graph.proofs.Merging.{merged_is_view}
use Rattle.session_laws.specs.State.{listed}
use Rattle.session_laws.specs.Runs.{united}
use Rattle.session_laws.proofs.Merges.{Merging}
use Rattle.session_laws.proofs.Standing.{Name, name_parts, name_from, GroupsMeet, meet_parts, meet_from, kept_stands, keep_stands, kept_joined, keep_joined}

pub united_moved : (table : ℕ → ℕ) (y x v : ℕ) → table v ≡ y → united table y x v ≡ x
united_moved table y x v e = let d : eqb (table v) y ≡ true = eq-eqb _ _ e in rw d

pub united_kept : (table : ℕ → ℕ) (y x v : ℕ) → (table v ≡ y → ⊥) → united table y x v ≡ table v
united_kept table y x v e = let d : eqb (table v) y ≡ false = ne_eqb _ _ e in rw d

-- the members of a group other than x are those that it had
pub united_other : (table : ℕ → ℕ) (y x v u : ℕ) → united table y x v ≡ u → (u ≡ x → ⊥) → table v ≡ u
united_other table y x v u e ne = elim (cases_eq (table v) y) [
  | inl here ↦ absurd (ne (sym e ∙ united_moved table y x v here))
  | inr there ↦ sym (united_kept table y x v there) ∙ e
]

-- those of x are those that x or y had
pub united_x : (table : ℕ → ℕ) (y x v : ℕ) → united table y x v ≡ x → (table v ≡ x) ⊎ (table v ≡ y)
united_x table y x v e = elim (cases_eq (table v) y) [
  | inl here ↦ inr here
  | inr there ↦ inl (sym (united_kept table y x v there) ∙ e)
]

module _ (g : Shape) (l : Lawful g) (table : ℕ → ℕ) (x y : ℕ) (nx : Name table g x) (ny : Name table g y) (differ : x ≡ y → ⊥) where
  -- y names no group any more
  y_gone : united table y x y ≡ y → ⊥
  y_gone e = differ (sym (united_moved table y x y ny.is_own) ∙ e)

  was_name : (v : ℕ) → Name (united table y x) g v → Name table g v × (v ≡ y → ⊥)
  was_name v n =
      (record { is_vertex = n.is_vertex; is_own = own }, λ e. y_gone (ap (united table y x) (sym e) ∙ (n.is_own ∙ e)))
    where
      own : table v ≡ v
      own = elim (cases_eq v x) [
        | inl v=x ↦ ap table v=x ∙ (nx.is_own ∙ sym v=x)
        | inr v≠x ↦ united_other table y x v v n.is_own v≠x
      ]

  pub merged_merging : (fixed : ℕ → Bool) → fixed y ≡ false → Merging fixed (merged_view table g) (merged_view (united table y x) g) x y
  merged_merging fixed fy = record {
    size = refl;
    stood = λ v h. let w = was_name v (name_parts (united table y x) g v h) in (name_from table g v w.0, w.1);
    others = λ u v h u≠x v≠x.
        let m = meet_parts (united table y x) g u v h in
        meet_from table g l u v (record {
          one_name = (was_name u m.one_name).0;
          other_name = (was_name v m.other_name).0;
          two = m.two;
          near = m.near;
          far = m.far;
          near_of = united_other table y x m.near u m.near_of u≠x;
          far_of = united_other table y x m.far v m.far_of v≠x;
          met = m.met;
        });
    either = λ v h. from v (meet_parts (united table y x) g x v h);
    y_stood = name_from table g y ny;
    y_loose = fy;
    lawful_s = (merged_is_view table).keeps_laws g l;
    lawful_t = (merged_is_view (united table y x)).keeps_laws g l;
  }
    where
      from : (v : ℕ) → GroupsMeet (united table y x) g x v →
          ((merged_view table g).joined x v ≡ true) ⊎ ((merged_view table g).joined y v ≡ true)
      from v m =
          let w = was_name v m.other_name in
          let far_of : table m.far ≡ v = united_other table y x m.far v m.far_of (λ e. m.two (sym e)) in
          elim (united_x table y x m.near m.near_of) [
            | inl e ↦ inl (meet_from table g l x v (record {
              one_name = nx;
              other_name = w.0;
              two = m.two;
              near = m.near;
              far = m.far;
              near_of = e;
              far_of = far_of;
              met = m.met;
            }))
            | inr e ↦ inr (meet_from table g l y v (record {
              one_name = ny;
              other_name = w.0;
              two = λ i. w.1 (sym i);
              near = m.near;
              far = m.far;
              near_of = e;
              far_of = far_of;
              met = m.met;
            }))
          ]

-- the same where vertices are hidden, but for x and y
pub hidden_merging : (fixed : ℕ → Bool) (s t : Shape) (x y : ℕ) (r : List ℕ) → listed r x ≡ false → listed r y ≡ false →
    Merging fixed s t x y → Merging fixed (removed_view (listed r) s) (removed_view (listed r) t) x y
hidden_merging fixed s t x y r kx ky m = record {
  size = m.size;
  stood = λ v h.
      let p = kept_stands r t v h in
      let q = m.stood v p.0 in
      (keep_stands r s v q.0 p.1, q.1);
  others = λ u v h u≠x v≠x.
      let p = kept_joined r t u v h in keep_joined r s u v (m.others u v p.0 u≠x v≠x) p.1 p.2;
  either = λ v h.
      let p = kept_joined r t x v h in
      elim (m.either v p.0) [
        | inl e ↦ inl (keep_joined r s x v e kx p.2)
        | inr e ↦ inr (keep_joined r s y v e ky p.2)
      ];
  y_stood = keep_stands r s y m.y_stood ky;
  y_loose = m.y_loose;
  lawful_s = (removed_is_view (listed r)).keeps_laws s m.lawful_s;
  lawful_t = (removed_is_view (listed r)).keeps_laws t m.lawful_t;
}
