-- Counting the pairs of a store, and one pair more. Assumes nothing.
use Rattle.std.proofs.Common.{◌≡◌, ℕ, zero, suc, ◌+◌, ◌<◌, ◌≤◌, min, max, Bool, true, false, not, ◌&&◌, ◌||◌, eqb, ltb, sym, refl, ap, ap₂, ◌∙◌, inl, inr, arith}
use Rattle.std.proofs.Math.Bool.{or-false}
use Rattle.std.proofs.lemmas.Bool.{cases_eq, cases_lt, eqb-false, ltb-true, and_parts}
use Rattle.std.proofs.lemmas.Bool.Decides.{nat_tests}
use Rattle.graph.specs.Counting.{count}
use Rattle.graph.specs.Shape.{Shape, Lawful}
use Rattle.graph.specs.Joining.{same_pair, with_pair}
use Rattle.graph.proofs.Pairs.{eqb_sym, eqb_same, same_shape, both_turned, never_same}
use Rattle.graph.proofs.Counting.{count_none}
pub use Rattle.graph.proofs.Counting.{count_same}
use Rattle.graph.specs.Stores.{total, joined_pairs, open_pairs, marked_shape, no_pairs}

-- two tests that differ at one number
pub count_one : (p q : ℕ → Bool) (n j : ℕ) → j < n → p j ≡ true → q j ≡ false → ((k : ℕ) → k < n → (k ≡ j → ⊥) → p k ≡ q k) →
    count p n ≡ count q n + 1
count_one p q zero j h pj qj same = absurd (omega arith)
count_one p q (suc n) j h pj qj same = elim (cases_eq n j) [
  | inl here ↦
      let before : count p n ≡ count q n = count_same p q n (λ k l. same k (omega arith) (λ e. omega arith)) in
      let pn : p n ≡ true = rw here pj in
      let qn : q n ≡ false = rw here qj in
      rw (pn, qn, before) (omega arith)
  | inr other ↦
      let before : count p n ≡ count q n + 1 = count_one p q n j (omega arith) pj qj (λ k l. same k (omega arith)) in
      let there : p n ≡ q n = same n (omega arith) other in
      rw (there, before) (omega arith)
]

pub total_same : (f g : ℕ → ℕ) (n : ℕ) → ((k : ℕ) → k < n → f k ≡ g k) → total f n ≡ total g n
total_same f g zero h = refl
total_same f g (suc n) h =
    let before : total f n ≡ total g n = total_same f g n (λ k l. h k (omega arith)) in
    rw (before, h n (omega arith))

pub total_one : (f g : ℕ → ℕ) (n j : ℕ) → j < n → f j ≡ g j + 1 → ((k : ℕ) → k < n → (k ≡ j → ⊥) → f k ≡ g k) →
    total f n ≡ total g n + 1
total_one f g zero j h e same = absurd (omega arith)
total_one f g (suc n) j h e same = elim (cases_eq n j) [
  | inl here ↦
      let before : total f n ≡ total g n = total_same f g n (λ k l. same k (omega arith) (λ x. omega arith)) in
      let there : f n ≡ g n + 1 = rw here e in
      omega arith
  | inr other ↦
      let before : total f n ≡ total g n + 1 = total_one f g n j (omega arith) e (λ k l. same k (omega arith)) in
      let there : f n ≡ g n = same n (omega arith) other in
      omega arith
]

-- the pair's own place among those that are counted
pair_row : (u v : ℕ) → eqb u v ≡ false → same_pair u v (max u v) (min u v) ≡ true
pair_row u v ne = grind (arith, nat_tests)

other_row : (u v x y : ℕ) → y < x → (x ≡ max u v → ⊥) → same_pair u v x y ≡ false
other_row u v x y h ne = grind (arith, nat_tests)

other_place : (u v y : ℕ) → y < max u v → (y ≡ min u v → ⊥) → same_pair u v (max u v) y ≡ false
other_place u v y h ne = grind (arith, nat_tests)

joined_row : (s : Shape) (u v : ℕ) → Lawful s → s.joined u v ≡ false → s.joined (max u v) (min u v) ≡ false
joined_row s u v l h = elim (cases_lt u v) [
  | inl lt ↦
      let hi : max u v ≡ v = omega arith in
      let lo : min u v ≡ u = omega arith in
      rw (hi, lo) (l.symmetric v u ∙ h)
  | inr ge ↦
      let hi : max u v ≡ u = omega arith in
      let lo : min u v ≡ v = omega arith in
      rw (hi, lo) h
]

-- two ways to mark pairs that differ at the pair u and v alone
one_place : (p q : ℕ → ℕ → Bool) (n u v : ℕ) → u < n → v < n → eqb u v ≡ false → p (max u v) (min u v) ≡ true → q (max u v) (min u v) ≡ false →
    ((x y : ℕ) → same_pair u v x y ≡ false → p x y ≡ q x y) → total (λ x. count (p x) x) n ≡ total (λ x. count (q x) x) n + 1
one_place p q n u v hu hv ne here off same =
    let differ : u ≡ v → ⊥ = eqb-false u v ne in
    total_one (λ x. count (p x) x) (λ x. count (q x) x) n (max u v) (omega arith)
    (count_one (p (max u v)) (q (max u v)) (max u v) (min u v) (omega arith) here off
    (λ k below other. same (max u v) k (other_place u v k below other)))
    (λ x below other. count_same (p x) (q x) x (λ k lower. same x k (other_row u v x k lower other)))

module _ (s : Shape) (u v : ℕ) (hu : u < s.size) (hv : v < s.size) (ne : eqb u v ≡ false) (l : Lawful s) (h : s.joined u v ≡ false) where
  elsewhere : (x y : ℕ) → same_pair u v x y ≡ false → (s.joined x y || same_pair u v x y) ≡ s.joined x y
  elsewhere x y off = ap (λ (t : Bool). s.joined x y || t) off ∙ or-false (s.joined x y)

  -- one pair more is one fewer that is not joined
  pub open_with_pair : open_pairs s ≡ open_pairs (with_pair s u v) + 1
  open_with_pair =
      one_place (λ x y. not (s.joined x y)) (λ x y. not (s.joined x y || same_pair u v x y)) s.size u v hu hv ne
      (rw (joined_row s u v l h)) (rw (joined_row s u v l h, pair_row u v ne)) (λ x y off. sym (ap not (elsewhere x y off)))

  -- one pair more is one more that is joined
  pub joined_with_pair : joined_pairs (with_pair s u v) ≡ joined_pairs s + 1
  joined_with_pair =
      one_place (λ x y. s.joined x y || same_pair u v x y) s.joined s.size u v hu hv ne
      (rw (joined_row s u v l h, pair_row u v ne)) (joined_row s u v l h) elsewhere

-- whatever way pairs are marked, if it does not matter which vertex comes first
pub marked_lawful : (n : ℕ) (marked : ℕ → ℕ → Bool) → ((u v : ℕ) → marked u v ≡ marked v u) → 32 ≤ n → n ≤ 512 →
    Lawful (marked_shape n marked)
marked_lawful n marked turned least most = record {
  least = least;
  most = most;
  inside = λ v h. ltb-true v n h;
  symmetric = λ u v. ap₂ (λ a b. a && b) (both_turned (eqb u v) (eqb v u) (ltb u n) (ltb v n) (eqb_sym u v)) (turned u v);
  apart = λ v. never_same (ltb v n && ltb v n) (marked v v) (eqb v v) (eqb_same v);
  standing = λ u v h.
      (and_parts (ltb u n) (ltb v n)
      (and_parts (ltb u n && ltb v n) (not (eqb u v)) (and_parts ((ltb u n && ltb v n) && not (eqb u v)) (marked u v) h).0).0).0;
}

two_of : (n a b : ℕ) → ((ltb a n && ltb b n) && not (eqb a b)) ≡ true → (a < n) × (b < n) × (a ≡ b → ⊥)
two_of n a b h = grind (arith, nat_tests)

pair_two : (n u v a b : ℕ) → u < n → v < n → eqb u v ≡ false → ((ltb a n && ltb b n) && not (eqb a b)) ≡ false → same_pair u v a b ≡ false
pair_two n u v a b hu hv ne h = grind (arith, nat_tests)

added_mark : (t b p : Bool) → (t ≡ false → p ≡ false) → (t && (b || p)) ≡ ((t && b) || p)
added_mark t b p h = grind (arith, nat_tests)

same_mark : (t x y : Bool) → (t ≡ true → x ≡ y) → (t && x) ≡ (t && y)
same_mark true x y h = h refl
same_mark false x y h = refl

-- one more pair is marked
pub marked_added : (n : ℕ) (marked after : ℕ → ℕ → Bool) (u v : ℕ) → u < n → v < n → eqb u v ≡ false →
    ((a b : ℕ) → a < n → b < n → (a ≡ b → ⊥) → after a b ≡ (marked a b || same_pair u v a b)) →
    marked_shape n after ≡ with_pair (marked_shape n marked) u v
marked_added n marked after u v hu hv ne h = same_shape n (λ w. ltb w n) (λ a b.
    let two : Bool = (ltb a n && ltb b n) && not (eqb a b) in
    same_mark two (after a b) (marked a b || same_pair u v a b) (λ t. let k = two_of n a b t in h a b k.0 k.1 k.2)
    ∙ added_mark two (marked a b) (same_pair u v a b) (pair_two n u v a b hu hv ne))

total_none : (f : ℕ → ℕ) (n : ℕ) → ((k : ℕ) → f k ≡ 0) → total f n ≡ 0
total_none f zero h = refl
total_none f (suc n) h = let before : total f n ≡ 0 = total_none f n h in rw (before, h n)

pub joined_none : (n : ℕ) → joined_pairs (no_pairs n) ≡ 0
joined_none n = total_none (λ u. count (λ v. false) u) n (λ u. count_none (λ v. false) u (λ _ _. refl))
