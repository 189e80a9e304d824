-- What merging two groups does to each pair of the merged view, exactly: for code that keeps that view in rows. Assumes nothing.
use Rattle.std.proofs.Common.{◌≡◌, ℕ, true, false, ◌||◌, sym, refl, ◌∙◌, inl, inr}
use Rattle.std.proofs.lemmas.Bool.{or_cases, or_left, or_right, false_from_ne_true}
use Rattle.graph.specs.Shape.{Shape, Lawful}
use Rattle.graph.specs.Views.{merged_view}
use Rattle.graph.proofs.Merging.{same_test}
use Rattle.session_laws.specs.Runs.{united}
use Rattle.session_laws.proofs.Counts.{but, but_from, but_parts}
use Rattle.session_laws.proofs.Merges.{Merging}
use Rattle.session_laws.proofs.Standing.{Name, name_parts, name_from, meet_parts, meet_from}
use Rattle.session_laws.proofs.Uniting.{united_moved, united_kept, merged_merging}

module _ (g : Shape) (l : Lawful g) (table : ℕ → ℕ) (x y : ℕ) (nx : Name table g x) (ny : Name table g y) (differ : x ≡ y → ⊥) where
  abbrev old : Shape
  old = merged_view table g

  abbrev new : Shape
  new = merged_view (united table y x) g

  merging : Merging (λ _. false) old new x y
  merging = merged_merging g l table x y nx ny differ (λ _. false) refl

  -- a name other than y is still one
  still_name : (v : ℕ) → Name table g v → (v ≡ y → ⊥) → Name (united table y x) g v
  still_name v n ne = record {
    is_vertex = n.is_vertex;
    is_own = united_kept table y x v (λ e. ne (sym n.is_own ∙ e)) ∙ n.is_own;
  }

  -- the member of a group other than y stays in it
  still_of : (a v : ℕ) → table a ≡ v → (v ≡ y → ⊥) → united table y x a ≡ v
  still_of a v e ne = united_kept table y x a (λ i. ne (sym e ∙ i)) ∙ e

  pub stands_now : (v : ℕ) → new.stands v ≡ but old.stands y v
  stands_now v = same_test (new.stands v) (but old.stands y v)
      (λ h. let p = merging.stood v h in but_from old.stands y v p.0 p.1)
      (λ h. let p = but_parts old.stands y v h in name_from (united table y x) g v (still_name v (name_parts table g v p.0) p.1))

  pub joined_others : (u v : ℕ) → (u ≡ x → ⊥) → (u ≡ y → ⊥) → (v ≡ x → ⊥) → (v ≡ y → ⊥) → new.joined u v ≡ old.joined u v
  joined_others u v u≠x u≠y v≠x v≠y = same_test (new.joined u v) (old.joined u v) (λ h. merging.others u v h u≠x v≠x) (λ h.
      let m = meet_parts table g u v h in
      meet_from (united table y x) g l u v (record {
        one_name = still_name u m.one_name u≠y;
        other_name = still_name v m.other_name v≠y;
        two = m.two;
        near = m.near;
        far = m.far;
        met = m.met;
        near_of = still_of m.near u m.near_of u≠y;
        far_of = still_of m.far v m.far_of v≠y;
      }))

  pub joined_x : (v : ℕ) → (v ≡ x → ⊥) → (v ≡ y → ⊥) → new.joined x v ≡ (old.joined x v || old.joined y v)
  joined_x v v≠x v≠y = same_test (new.joined x v) (old.joined x v || old.joined y v)
      (λ h. elim (merging.either v h) [
        | inl e ↦ or_left (old.joined x v) (old.joined y v) e
        | inr e ↦ or_right (old.joined x v) (old.joined y v) e
      ])
      (λ h. elim (or_cases (old.joined x v) (old.joined y v) h) [
        | inl e ↦
            let m = meet_parts table g x v e in
            from m.other_name m.near m.far (still_of m.near x m.near_of differ) m.far_of m.met
        | inr e ↦
            let m = meet_parts table g y v e in
            from m.other_name m.near m.far (united_moved table y x m.near m.near_of) m.far_of m.met
      ])
    where
      from : Name table g v → (a c : ℕ) → united table y x a ≡ x → table c ≡ v → g.joined a c ≡ true → new.joined x v ≡ true
      from nv a c ea ec met = meet_from (united table y x) g l x v (record {
        one_name = still_name x nx differ;
        other_name = still_name v nv v≠y;
        two = λ e. v≠x (sym e);
        near = a;
        far = c;
        near_of = ea;
        far_of = still_of c v ec v≠y;
        met = met;
      })

  pub joined_y : (v : ℕ) → new.joined y v ≡ false
  joined_y v = false_from_ne_true (new.joined y v) (λ h. (merging.stood y (merging.lawful_t.standing y v h)).1 refl)
