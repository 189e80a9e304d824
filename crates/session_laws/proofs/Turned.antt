-- George's test between two loose vertices, where the one that keeps its name has the neighbours to cover. Assumes nothing.
use Rattle.std.proofs.Common.{◌≡◌, ℕ, ◌<◌, ◌≤◌, Bool, true, false, cond, not, ◌&&◌, ◌||◌, eqb, ◌⊎◌, sym, refl, ◌∙◌, inl, inr, arith}
use Rattle.std.proofs.lemmas.Bool.{cases_eq, and_parts, and_from, both_ways, not_from_false, eq-eqb, ne_eqb}
use Rattle.graph.specs.Counting.{count}
use Rattle.graph.specs.Shape.{Shape}
use Rattle.session_laws.specs.Emptying.{loose}
use Rattle.session_laws.specs.Peeling.{bound_in}
use Rattle.session_laws.specs.Tests.{significant}
use Rattle.session_laws.proofs.Counts.{count_mono, image, but, but_from, but_parts}
use Rattle.session_laws.proofs.Cores.{Core, NoCore, parts_of, from_parts, far_stands, far_inside}
use Rattle.session_laws.proofs.Merges.{Merging, loose_in_s, either_far, moved, moved_y, moved_other, binds, apart_in_t}

module _ (fixed : ℕ → Bool) (k : ℕ) (s t : Shape) (x y : ℕ) (m : Merging fixed s t x y) (x-loose : fixed x ≡ false)
    (covered : (w : ℕ) → s.joined x w ≡ true → significant fixed k s w ≡ true → s.joined y w ≡ true) where
  -- the set c with y in the place of x
  abbrev instead : (ℕ → Bool) → ℕ → Bool
  instead c v = cond (eqb v y) (c x) (but c x v)

  at_y : (c : ℕ → Bool) → instead c y ≡ c x
  at_y c = let d : eqb y y ≡ true = eq-eqb y y refl in rw d

  at_other : (c : ℕ → Bool) (v : ℕ) → (v ≡ y → ⊥) → instead c v ≡ but c x v
  at_other c v ne = let d : eqb v y ≡ false = ne_eqb v y ne in rw d

  not_y : (v w : ℕ) → t.joined v w ≡ true → w ≡ y → ⊥
  not_y v w j = (m.stood w (far_stands t m.lawful_t v w j)).1

  in_instead : (c : ℕ → Bool) (v w : ℕ) → t.joined v w ≡ true → (w ≡ x → ⊥) → (fixed w ≡ true) ⊎ (c w ≡ true) →
      (fixed w ≡ true) ⊎ (instead c w ≡ true)
  in_instead c v w j ne either = elim either [
    | inl f ↦ inl f
    | inr h ↦ inr (at_other c w (not_y v w j) ∙ but_from c x w h ne)
  ]

  -- what binds x in t binds y in s
  heavy_y : (c : ℕ → Bool) → Core fixed k t c → c x ≡ true → k ≤ bound_in fixed s (instead c) y
  heavy_y c core h =
      let many : k ≤ bound_in fixed t c x = core.heavy x h in
      let less : bound_in fixed t c x ≤ count (λ w. s.joined y w && (fixed w || instead c w)) t.size = count_mono _ _ t.size (λ w _ e.
      let p = parts_of (t.joined x w) (fixed w) (c w) e in
      let ne = apart_in_t fixed k s t x y m w p.0 in
      let j : s.joined y w ≡ true = elim (m.either w p.0) [
        | inl a ↦ covered w a (binds fixed k s t x y m c core w ne p.1)
        | inr a ↦ a
      ] in
      from_parts (s.joined y w) (fixed w) (instead c w) j (in_instead c x w p.0 ne p.1)) in
      let same : count (λ w. s.joined y w && (fixed w || instead c w)) t.size ≡ bound_in fixed s (instead c) y = rw m.size in
      omega arith

  -- and what binds another vertex in t still binds it in s
  heavy_other : (c : ℕ → Bool) → Core fixed k t c → (v : ℕ) → c v ≡ true → (v ≡ x → ⊥) → k ≤ bound_in fixed s (instead c) v
  heavy_other c core v h ne =
      let many : k ≤ bound_in fixed t c v = core.heavy v h in
      let less : bound_in fixed t c v ≤ bound_in fixed s (instead c) v =
      image (moved fixed k s t x y m) (λ w. s.joined v w && (fixed w || instead c w)) s.size t.size
      (λ w. t.joined v w && (fixed w || c w)) (λ r _ e.
      let p = parts_of (t.joined v r) (fixed r) (c r) e in from r p.0 p.1) in
      omega arith
    where
      from : (r : ℕ) → t.joined v r ≡ true → (fixed r ≡ true) ⊎ (c r ≡ true) →
          (w : ℕ) × (w < s.size) × ((s.joined v w && (fixed w || instead c w)) ≡ true) × (moved fixed k s t x y m w ≡ r)
      from r j either = elim (cases_eq r x) [
        | inl r=x ↦
            let inside : c x ≡ true = elim either [ inl f ↦ absurd (both_ways _ x-loose (rw r=x at f)) | inr f ↦ rw r=x at f ] in
            let e : s.joined v y ≡ true = elim (either_far fixed k s t x y m v (rw r=x at j)) [
              | inl a ↦ m.lawful_s.symmetric v y ∙ covered v (m.lawful_s.symmetric x v ∙ a) (binds fixed k s t x y m c core v ne (inr h))
              | inr a ↦ a
            ] in (
              y,
              far_inside s m.lawful_s v y e,
              from_parts (s.joined v y) (fixed y) (instead c y) e (inr (at_y c ∙ inside)),
              moved_y fixed k s t x y m ∙ sym r=x,
            )
        | inr r≠x ↦
            let e : s.joined v r ≡ true = m.others v r j ne r≠x in (
              r,
              far_inside s m.lawful_s v r e,
              from_parts (s.joined v r) (fixed r) (instead c r) e (in_instead c v r j r≠x either),
              moved_other fixed k s t x y m r (not_y v r j),
            )
      ]

  pub turned_no_core : NoCore fixed k s → NoCore fixed k t
  turned_no_core nc c core = nc (instead c) (record { someone = someone; within = within; heavy = heavy })
    where
      someone : (v : ℕ) × (instead c v ≡ true)
      someone =
          let v = core.someone.0 in
          let h = core.someone.1 in
          elim (cases_eq v x) [
            | inl v=x ↦ (y, at_y c ∙ (rw v=x at h))
            | inr v≠x ↦ (v, at_other c v (m.stood v (and_parts (t.stands v) (not (fixed v)) (core.within v h)).0).1 ∙ but_from c x v h v≠x)
          ]

      within : (v : ℕ) → instead c v ≡ true → loose fixed s v ≡ true
      within v h = elim (cases_eq v y) [
        | inl v=y ↦ rw v=y (and_from (s.stands y) (not (fixed y)) m.y_stood (not_from_false _ m.y_loose))
        | inr v≠y ↦ loose_in_s fixed k s t x y m v (core.within v (but_parts c x v (sym (at_other c v v≠y) ∙ h)).0)
      ]

      heavy : (v : ℕ) → instead c v ≡ true → k ≤ bound_in fixed s (instead c) v
      heavy v h = elim (cases_eq v y) [
        | inl v=y ↦ rw v=y (heavy_y c core (sym (at_y c) ∙ (rw v=y at h)))
        | inr v≠y ↦ let p = but_parts c x v (sym (at_other c v v≠y) ∙ h) in heavy_other c core v p.0 p.1
      ]
