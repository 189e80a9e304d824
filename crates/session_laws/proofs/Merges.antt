-- Merging by Briggs's or George's test leaves a graph that can be emptied one that can be emptied. Assumes nothing.
use Rattle.std.proofs.Common.{◌≡◌, ℕ, ◌<◌, ◌≤◌, Bool, true, false, cond, not, ◌&&◌, ◌||◌, eqb, leb, ◌⊎◌, sym, refl, ◌∙◌, inl, inr, arith}
use Rattle.std.proofs.lemmas.Bool.{cases_Bool, cases_eq, and_parts, and_from, or_left, or_right, ltb-true, le-leb, both_ways, not-true, eq-eqb, ne_eqb}
use Rattle.std.proofs.lemmas.Bool.Decides.{nat_tests}
use Rattle.graph.specs.Counting.{count}
use Rattle.graph.specs.Shape.{Shape, Lawful, degree}
use Rattle.session_laws.specs.Emptying.{loose, CanBeEmptied}
use Rattle.session_laws.specs.Tests.{significant, briggs, george, may_merge}
use Rattle.session_laws.specs.Peeling.{bound_in}
use Rattle.session_laws.proofs.Counts.{count_mono, image, any_nowhere}
use Rattle.session_laws.proofs.Cores.{Core, NoCore, parts_of, from_parts, far_stands, far_inside, emptied_no_core, no_core_emptied}

-- t is s with the vertex y gone into the vertex x: what is joined in t was joined in s, to x or y where x stands now
pub record Merging (fixed : ℕ → Bool) (s t : Shape) (x y : ℕ) : Type 0 where
  pub size : t.size ≡ s.size
  pub stood : (v : ℕ) → t.stands v ≡ true → (s.stands v ≡ true) × (v ≡ y → ⊥)
  pub others : (u v : ℕ) → t.joined u v ≡ true → (u ≡ x → ⊥) → (v ≡ x → ⊥) → s.joined u v ≡ true
  pub either : (v : ℕ) → t.joined x v ≡ true → (s.joined x v ≡ true) ⊎ (s.joined y v ≡ true)
  pub y_stood : s.stands y ≡ true
  pub y_loose : fixed y ≡ false
  pub lawful_s : Lawful s
  pub lawful_t : Lawful t

module _ (fixed : ℕ → Bool) (k : ℕ) (s t : Shape) (x y : ℕ) (m : Merging fixed s t x y) where
  -- the pairs of x from the other side
  pub either_far : (v : ℕ) → t.joined v x ≡ true → (s.joined v x ≡ true) ⊎ (s.joined v y ≡ true)
  either_far v h = elim (m.either v (m.lawful_t.symmetric x v ∙ h)) [
    | inl e ↦ inl (m.lawful_s.symmetric v x ∙ e)
    | inr e ↦ inr (m.lawful_s.symmetric v y ∙ e)
  ]

  pub loose_in_s : (v : ℕ) → loose fixed t v ≡ true → loose fixed s v ≡ true
  loose_in_s v h = let p = and_parts (t.stands v) (not (fixed v)) h in and_from _ _ (m.stood v p.0).0 p.1

  -- where the vertices of s are in t
  abbrev pub moved : ℕ → ℕ
  moved w = cond (eqb w y) x w

  pub moved_y : moved y ≡ x
  moved_y = let d : eqb y y ≡ true = eq-eqb y y refl in rw d

  pub moved_other : (w : ℕ) → (w ≡ y → ⊥) → moved w ≡ w
  moved_other w ne = let d : eqb w y ≡ false = ne_eqb w y ne in rw d

  -- where a neighbour in t comes from
  comes_from : (v : ℕ) → (v ≡ x → ⊥) → (r : ℕ) → t.joined v r ≡ true →
      (w : ℕ) × (w < s.size) × (s.joined v w ≡ true) × (moved w ≡ r) × ((w ≡ r) ⊎ ((r ≡ x) × (w ≡ y)))
  comes_from v ne r j = elim (cases_eq r x) [
    | inl r=x ↦ elim (either_far v (rw r=x at j)) [
      | inl e ↦
          let kept : moved x ≡ x = moved_other x (λ x=y. (m.stood r (far_stands t m.lawful_t v r j)).1 (r=x ∙ x=y)) in
          (x, far_inside s m.lawful_s v x e, e, kept ∙ sym r=x, inl (sym r=x))
      | inr e ↦ (y, far_inside s m.lawful_s v y e, e, moved_y ∙ sym r=x, inr (r=x, refl))
    ]
    | inr r≠x ↦
        let e : s.joined v r ≡ true = m.others v r j ne r≠x in
        (r, far_inside s m.lawful_s v r e, e, moved_other r (m.stood r (far_stands t m.lawful_t v r j)).1, inl refl)
  ]

  -- a merge leaves another vertex joined to no more than before, of those that pass a test
  pub joined_falls : (p q : ℕ → Bool) → ((w : ℕ) → q w ≡ true → p w ≡ true) → (q x ≡ true → p y ≡ true) → (v : ℕ) → (v ≡ x → ⊥) →
      count (λ w. t.joined v w && q w) t.size ≤ count (λ w. s.joined v w && p w) s.size
  joined_falls p q same at_x v ne = image moved (λ w. s.joined v w && p w) s.size t.size (λ w. t.joined v w && q w) (λ r _ h.
      let parts = and_parts (t.joined v r) (q r) h in
      let w = comes_from v ne r parts.0 in
      let passes : p w.0 ≡ true = elim w.4 [
        | inl e ↦ rw e (same r parts.1)
        | inr (e, f) ↦ rw f (at_x (rw e at parts.1))
      ] in
      (w.0, w.1, and_from _ _ w.2 passes, w.3))

  degree_falls : (c : ℕ → Bool) (v : ℕ) → (v ≡ x → ⊥) → bound_in fixed t c v ≤ degree s v
  degree_falls c v ne =
      let falls : bound_in fixed t c v ≤ count (λ w. s.joined v w && true) s.size =
      joined_falls (λ _. true) (λ w. fixed w || c w) (λ _ _. refl) (λ _. refl) v ne in
      let all : count (λ w. s.joined v w && true) s.size ≤ degree s v = count_mono _ _ s.size (λ w _ h. (and_parts (s.joined v w) true h).0) in
      omega arith

  -- a vertex of a core of t, other than x, is of degree k or more in s
  was_heavy : (c : ℕ → Bool) → Core fixed k t c → (v : ℕ) → c v ≡ true → (v ≡ x → ⊥) → k ≤ degree s v
  was_heavy c core v h ne =
      let many : k ≤ bound_in fixed t c v = core.heavy v h in
      let less : bound_in fixed t c v ≤ degree s v = degree_falls c v ne in
      omega arith

  -- what binds a vertex in a core of t is significant in s
  pub binds : (c : ℕ → Bool) → Core fixed k t c → (w : ℕ) → (w ≡ x → ⊥) → (fixed w ≡ true) ⊎ (c w ≡ true) → significant fixed k s w ≡ true
  binds c core w ne either = elim either [
    | inl f ↦ or_left (fixed w) (leb k (degree s w)) f
    | inr h ↦ or_right (fixed w) (leb k (degree s w)) (le-leb _ _ (was_heavy c core w h ne))
  ]

  -- the set c is a core of s, once each pair of a vertex of c to what binds it was there
  same_core : (c : ℕ → Bool) → Core fixed k t c →
      ((v w : ℕ) → c v ≡ true → t.joined v w ≡ true → (fixed w ≡ true) ⊎ (c w ≡ true) → s.joined v w ≡ true) → Core fixed k s c
  same_core c core kept = record {
    someone = core.someone;
    within = λ v h. loose_in_s v (core.within v h);
    heavy = λ v h.
        let many : k ≤ bound_in fixed t c v = core.heavy v h in
        let less : bound_in fixed t c v ≤ count (λ w. s.joined v w && (fixed w || c w)) t.size = count_mono _ _ t.size (λ w _ e.
        let p = parts_of (t.joined v w) (fixed w) (c w) e in
        from_parts (s.joined v w) (fixed w) (c w) (kept v w h p.0 p.1) p.1) in
        let same : count (λ w. s.joined v w && (fixed w || c w)) t.size ≡ bound_in fixed s c v = rw m.size in
        omega arith;
  }

  pub apart_in_t : (v : ℕ) → t.joined x v ≡ true → v ≡ x → ⊥
  apart_in_t v j e = both_ways _ (m.lawful_t.apart x) (rw e at j)

  -- how many significant neighbours x and y have together
  abbrev pub together : ℕ
  together = count (λ w. (s.joined x w || s.joined y w) && significant fixed k s w) s.size

  pub briggs_no_core : fixed x ≡ false → together < k → NoCore fixed k s → NoCore fixed k t
  briggs_no_core loose-x few nc c core = elim (cases_Bool (c x)) [
    | inl inside ↦
        let many : k ≤ bound_in fixed t c x = core.heavy x inside in
        let less : bound_in fixed t c x ≤ count (λ w. (s.joined x w || s.joined y w) && significant fixed k s w) t.size =
        count_mono _ _ t.size (λ w _ e.
        let p = parts_of (t.joined x w) (fixed w) (c w) e in
        and_from _ _ (elim (m.either w p.0) [
          | inl a ↦ or_left (s.joined x w) (s.joined y w) a
          | inr a ↦ or_right (s.joined x w) (s.joined y w) a
        ])
        (binds c core w (apart_in_t w p.0) p.1)) in
        let same : count (λ w. (s.joined x w || s.joined y w) && significant fixed k s w) t.size ≡ together = rw m.size in
        omega arith
    | inr outside ↦ nc c (same_core c core (λ v w h j either.
        m.others v w j (λ e. both_ways _ outside (rw e at h))
        (λ e. elim either [ inl f ↦ both_ways _ loose-x (rw e at f) | inr f ↦ both_ways _ outside (rw e at f) ])))
  ]

  -- x fixed or loose: every significant neighbour of y is joined to x
  pub george_no_core : ((w : ℕ) → s.joined y w ≡ true → significant fixed k s w ≡ true → s.joined x w ≡ true) →
      NoCore fixed k s → NoCore fixed k t
  george_no_core covered nc c core = nc c (same_core c core kept)
    where
      kept : (v w : ℕ) → c v ≡ true → t.joined v w ≡ true → (fixed w ≡ true) ⊎ (c w ≡ true) → s.joined v w ≡ true
      kept v w h j either = elim (cases_eq v x) [
        | inl v=x ↦
            let j' : t.joined x w ≡ true = rw v=x at j in
            let e : s.joined x w ≡ true = elim (m.either w j') [
              | inl a ↦ a
              | inr a ↦ covered w a (binds c core w (apart_in_t w j') either)
            ] in
            rw v=x e
        | inr v≠x ↦ elim (cases_eq w x) [
          | inl w=x ↦
              let e : s.joined v x ≡ true = elim (either_far v (rw w=x at j)) [
                | inl a ↦ a
                | inr a ↦ m.lawful_s.symmetric v x ∙ covered v (m.lawful_s.symmetric y v ∙ a) (binds c core v v≠x (inr h))
              ] in
              rw w=x e
          | inr w≠x ↦ m.others v w j v≠x w≠x
        ]
      ]

pub briggs_few : (fixed : ℕ → Bool) (k : ℕ) (s : Shape) (u v : ℕ) → briggs fixed k s u v ≡ true →
    count (λ w. (s.joined u w || s.joined v w) && significant fixed k s w) s.size < k
unfolding briggs
briggs_few fixed k s u v h = ltb-true _ _ h

covered_here : (j i h : Bool) → ((j && not i) && h) ≡ false → j ≡ true → h ≡ true → i ≡ true
covered_here j i h none hj hh = grind (arith, nat_tests)

pub george_covers : (fixed : ℕ → Bool) (k : ℕ) (s : Shape) → Lawful s → (u v : ℕ) → george fixed k s u v ≡ true →
    (w : ℕ) → s.joined v w ≡ true → significant fixed k s w ≡ true → s.joined u w ≡ true
unfolding george
george_covers fixed k s l u v h w j heavy =
    covered_here (s.joined v w) (s.joined u w) (significant fixed k s w)
    (any_nowhere (λ z. (s.joined v z && not (s.joined u z)) && significant fixed k s z) s.size (not-true _ h) w (far_inside s l v w j)) j heavy

-- the names of two groups, and which of them the merged one keeps
abbrev pub Names : ℕ → ℕ → ℕ → ℕ → Type 0
Names u v x y = ((u ≡ x) × (v ≡ y)) ⊎ ((u ≡ y) × (v ≡ x))

-- what the test of merge grants keeps a graph without core without
pub merge_no_core : (fixed : ℕ → Bool) (k : ℕ) (s t : Shape) (x y u v : ℕ) → Merging fixed s t x y → Names u v x y →
    may_merge fixed k s u v ≡ true → NoCore fixed k s → NoCore fixed k t
merge_no_core fixed k s t x y u v m names h = elim (cases_Bool (fixed u)) [
  | inl fu ↦
      let test : george fixed k s u v ≡ true = rw fu at h in
      elim names [
        | inl (a, b) ↦ george_no_core fixed k s t x y m (rw (a, b) at (george_covers fixed k s m.lawful_s u v test))
        | inr (a, b) ↦ absurd (both_ways _ m.y_loose (rw a at fu))
      ]
  | inr fu ↦ elim (cases_Bool (fixed v)) [
    | inl fv ↦
        let test : george fixed k s v u ≡ true = rw (fu, fv) at h in
        elim names [
          | inl (a, b) ↦ absurd (both_ways _ m.y_loose (rw b at fv))
          | inr (a, b) ↦ george_no_core fixed k s t x y m (rw (a, b) at (george_covers fixed k s m.lawful_s v u test))
        ]
    | inr fv ↦
        let test : briggs fixed k s u v ≡ true = rw (fu, fv) at h in
        let few : count (λ w. (s.joined u w || s.joined v w) && significant fixed k s w) s.size < k = briggs_few fixed k s u v test in
        elim names [
          | inl (a, b) ↦ briggs_no_core fixed k s t x y m (rw a at fu) (rw (a, b) at few)
          | inr (a, b) ↦
              let turned : count (λ w. (s.joined x w || s.joined y w) && significant fixed k s w) s.size ≤
              count (λ w. (s.joined y w || s.joined x w) && significant fixed k s w) s.size = count_mono _ _ s.size (λ w _ e.
              turn (s.joined x w) (s.joined y w) (significant fixed k s w) e) in
              let few' : count (λ w. (s.joined y w || s.joined x w) && significant fixed k s w) s.size < k = rw (a, b) at few in
              briggs_no_core fixed k s t x y m (rw b at fv) (omega arith)
        ]
  ]
]
  where
    turn : (i j h : Bool) → ((i || j) && h) ≡ true → ((j || i) && h) ≡ true
    turn i j h e = grind (arith, nat_tests)

pub merge_emptied : (fixed : ℕ → Bool) (k : ℕ) (s t : Shape) (x y u v : ℕ) → Merging fixed s t x y → Names u v x y →
    may_merge fixed k s u v ≡ true → CanBeEmptied fixed k s → CanBeEmptied fixed k t
merge_emptied fixed k s t x y u v m names h e =
    no_core_emptied fixed k t m.lawful_t (merge_no_core fixed k s t x y u v m names h (emptied_no_core fixed k s m.lawful_s e))
