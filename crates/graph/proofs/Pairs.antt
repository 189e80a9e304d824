-- Pairs of numbers, and shapes that differ in one pair. Assumes nothing.
use Rattle.std.proofs.Common.{◌≡◌, ℕ, Bool, true, false, not, ◌&&◌, ◌||◌, eqb, leb, ◌<◌, ◌⊎◌, refl, ap, ap₂, inl, inr, arith}
use mathlib.Core.Path.{fun_ext}
use Rattle.std.proofs.lemmas.Bool.{or_cases, or_parts, eq-eqb, leb-false, eqb-false}
use Rattle.std.proofs.lemmas.Bool.Decides.{nat_tests}
use Rattle.graph.specs.Shape.{Shape, Lawful}
use Rattle.graph.specs.Joining.{same_pair, with_pair}

-- shapes are equal where their answers are
pub same_shape : (n : ℕ) (p : ℕ → Bool) {q r : ℕ → ℕ → Bool} → ((a b : ℕ) → q a b ≡ r a b) →
    ◌≡◌ {A = Shape} (record { size = n; stands = p; joined = q }) (record { size = n; stands = p; joined = r })
same_shape n p h = ap (λ (j : ℕ → ℕ → Bool). record { size = n; stands = p; joined = j }) (fun_ext (λ a. fun_ext (h a)))

pub eqb_sym : (a b : ℕ) → eqb a b ≡ eqb b a
eqb_sym a b = grind (arith, nat_tests)

pub eqb_same : (a : ℕ) → eqb a a ≡ true
eqb_same a = eq-eqb a a refl

pub pair_sym : (u v a b : ℕ) → same_pair u v a b ≡ same_pair u v b a
pair_sym u v a b = grind (arith, nat_tests)

-- what the pair is
pub pair_is : (u v a b : ℕ) → same_pair u v a b ≡ true → ((a ≡ u) × (b ≡ v)) ⊎ ((a ≡ v) × (b ≡ u))
pair_is u v a b h = grind (arith, nat_tests)

pub pair_apart : (u v a : ℕ) → eqb u v ≡ false → same_pair u v a a ≡ false
pair_apart u v a h = grind (arith, nat_tests)

-- two numbers that are not found outside, nor the same
pub two_inside : (n u v : ℕ) → ((leb n u || leb n v) || eqb u v) ≡ false → (u < n) × (v < n) × (u ≡ v → ⊥)
two_inside n u v h =
    let p = or_parts (leb n u || leb n v) (eqb u v) h in
    let q = or_parts (leb n u) (leb n v) p.0 in
    (leb-false n u q.0, leb-false n v q.1, eqb-false u v p.1)

-- what is asked of two different things, asked the other way round, and of a thing and itself
pub both_turned : (x y k l : Bool) → x ≡ y → ((k && l) && not x) ≡ ((l && k) && not y)
both_turned x y k l e = grind (arith, nat_tests)

pub never_same : (k g e : Bool) → e ≡ true → ((k && not e) && g) ≡ false
never_same k g e h = grind (arith, nat_tests)

-- a pair of two different standing vertices can be joined, and the laws still hold
pub with_pair_lawful : (s : Shape) (u v : ℕ) → s.stands u ≡ true → s.stands v ≡ true → eqb u v ≡ false →
    Lawful s → Lawful (with_pair s u v)
with_pair_lawful s u v hu hv ne l = record {
  least = l.least;
  most = l.most;
  inside = l.inside;
  symmetric = λ a b. ap₂ (λ x y. x || y) (l.symmetric a b) (pair_sym u v a b);
  apart = λ a. let e = l.apart a in let f = pair_apart u v a ne in grind (arith, nat_tests);
  standing = λ a b h. elim (or_cases _ _ h) [
    | inl e ↦ l.standing a b e
    | inr e ↦ elim (pair_is u v a b e) [ inl (x, y) ↦ rw x hu | inr (x, y) ↦ rw x hv ]
  ];
}
