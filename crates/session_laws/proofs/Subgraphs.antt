-- What taking vertices away does to a graph that can be emptied. Assumes nothing.
use Rattle.std.proofs.Common.{◌≡◌, ℕ, ◌<◌, ◌≤◌, Bool, true, ◌&&◌, ◌||◌, ltb, ◌⊎◌, inl, inr, arith}
use Rattle.graph.specs.Counting.{count}
use Rattle.graph.specs.Shape.{Shape, Lawful, degree}
use Rattle.session_laws.specs.Emptying.{loose, CanBeEmptied}
use Rattle.session_laws.specs.Peeling.{bound_in}
use Rattle.session_laws.proofs.Counts.{count_mono, find, second_fails}
use Rattle.std.proofs.lemmas.Bool.{and_parts, and_from, ltb-true, ltb-false, cases_Bool, not_from_false}
use Rattle.session_laws.proofs.Cores.{NoCore, from_parts, in_loose, far_stands, emptied_no_core, no_core_emptied}

-- s shows no more than t: no other loose vertices, and no other pairs of a loose one
pub record PartOf (fixed : ℕ → Bool) (s t : Shape) : Type 0 where
  pub size : s.size ≡ t.size
  pub loose_in : (v : ℕ) → loose fixed s v ≡ true → loose fixed t v ≡ true
  pub joined_in : (u v : ℕ) → s.joined u v ≡ true → t.joined u v ≡ true

pub part_no_core : (fixed : ℕ → Bool) (k : ℕ) (s t : Shape) → PartOf fixed s t → NoCore fixed k t → NoCore fixed k s
part_no_core fixed k s t p nc c core = nc c (record {
  someone = core.someone;
  within = λ v h. p.loose_in v (core.within v h);
  heavy = λ v h.
      let many : k ≤ bound_in fixed s c v = core.heavy v h in
      let less : bound_in fixed s c v ≤ count (λ w. t.joined v w && (fixed w || c w)) s.size = count_mono _ _ s.size (λ w _ e.
      let q = and_parts (s.joined v w) (fixed w || c w) e in and_from _ _ (p.joined_in v w q.0) q.1) in
      let same : count (λ w. t.joined v w && (fixed w || c w)) s.size ≡ bound_in fixed t c v = rw p.size in
      omega arith;
})

pub part_emptied : (fixed : ℕ → Bool) (k : ℕ) (s t : Shape) → Lawful s → Lawful t → PartOf fixed s t →
    CanBeEmptied fixed k t → CanBeEmptied fixed k s
part_emptied fixed k s t ls lt p e = no_core_emptied fixed k s ls (part_no_core fixed k s t p (emptied_no_core fixed k t lt e))

fixed_or_loose : (fixed : ℕ → Bool) (s : Shape) → Lawful s → (w x : ℕ) → s.joined w x ≡ true →
    (fixed x ≡ true) ⊎ (loose fixed s x ≡ true)
fixed_or_loose fixed s l w x j = elim (cases_Bool (fixed x)) [
  | inl f ↦ inl f
  | inr f ↦ inr (and_from _ _ (far_stands s l w x j) (not_from_false _ f))
]

-- as long as a loose vertex stands, one of them has a degree below k
pub some_light : (fixed : ℕ → Bool) (k : ℕ) (s : Shape) → Lawful s → CanBeEmptied fixed k s → (v : ℕ) → loose fixed s v ≡ true →
    (u : ℕ) × (loose fixed s u ≡ true) × (degree s u < k)
some_light fixed k s l e v hv = elim (find (λ u. loose fixed s u && ltb (degree s u) k) s.size) [
  | inl u ↦ let p = and_parts (loose fixed s u.0) (ltb (degree s u.0) k) u.2 in (u.0, p.0, ltb-true _ _ p.1)
  | inr none ↦ absurd (emptied_no_core fixed k s l e (loose fixed s) (record {
    someone = (v, hv);
    within = λ w h. h;
    heavy = λ w h.
        let many : k ≤ degree s w =
        ltb-false _ _ (second_fails (loose fixed s w) (ltb (degree s w) k) (none w (in_loose fixed s l w h)) h) in
        let all : degree s w ≤ bound_in fixed s (loose fixed s) w = count_mono _ _ s.size (λ x _ j.
        from_parts (s.joined w x) (fixed x) (loose fixed s x) j (fixed_or_loose fixed s l w x j)) in
        omega arith;
  }))
]
