-- Rows of a triangle, one after another. Assumes nothing.
use Rattle.std.proofs.Common.{◌≡◌, ℕ, zero, suc, ◌+◌, ◌*◌, ◌/◌, ◌<◌, ◌≤◌, min, max, true, false, eqb, sym, ap, ◌∙◌, inl, inr, suc-mul, mul-suc, arith}
use Rattle.std.proofs.lemmas.Bool.{cases_order, cases_lt, cases_eq, cases_Bool, eq-eqb, ne_eqb}
use Rattle.graph.proofs.Pairs.{pair_is}
use Rattle.std.proofs.lemmas.Bool.Decides.{nat_tests}
use Rattle.graph.specs.Joining.{same_pair}
use Rattle.matrix.specs.Layout.{triangle, cell, bytes_for}

pub square_ge : (n : ℕ) → n ≤ n * n
square_ge zero = omega arith
square_ge (suc n) = let e : suc n * suc n ≡ n * suc n + suc n = suc-mul n (suc n) in omega arith

pub triangle_suc : (n : ℕ) → triangle (suc n) ≡ triangle n + n
unfolding triangle
triangle_suc n =
    let e : suc n * suc n ≡ n * suc n + suc n = suc-mul n (suc n) in
    let f : n * suc n ≡ n * n + n = mul-suc n n in
    let g : n ≤ n * n = square_ge n in
    omega arith

pub triangle_mono : (a b : ℕ) → a ≤ b → triangle a ≤ triangle b
triangle_mono a zero h = let e : a ≡ zero = omega arith in rw e (omega arith)
triangle_mono a (suc b) h = elim (cases_lt b a) [
  | inl lt ↦ let e : a ≡ suc b = omega arith in rw e (omega arith)
  | inr ge ↦
      let before : triangle a ≤ triangle b = triangle_mono a b ge in
      let step : triangle (suc b) ≡ triangle b + b = triangle_suc b in
      omega arith
]

-- a place in a row comes before every later row
pub row_before : (hi lo n : ℕ) → lo < hi → hi < n → triangle hi + lo < triangle n
row_before hi lo n l h =
    let step : triangle (suc hi) ≡ triangle hi + hi = triangle_suc hi in
    let later : triangle (suc hi) ≤ triangle n = triangle_mono (suc hi) n h in
    omega arith

pub triangle_most : (n : ℕ) → n ≤ 512 → triangle n ≤ 130816
unfolding triangle
triangle_most n h = let m : triangle n ≤ triangle 512 = triangle_mono n 512 h in omega arith

pub cell_inside : (u v n : ℕ) → u < n → v < n → (u ≡ v → ⊥) → cell u v < triangle n
cell_inside u v n hu hv ne = row_before (max u v) (min u v) n (omega arith) (omega arith)

-- two places of rows are one only in the same row
row_place : (a b x y : ℕ) → b < a → y < x → triangle a + b ≡ triangle x + y → (a ≡ x) × (b ≡ y)
row_place a b x y hb hy e = elim (cases_order a x) [
  | inl same ↦ let t : triangle a ≡ triangle x = ap triangle same in (same, omega arith)
  | inr (inl less) ↦ let before : triangle a + b < triangle x = row_before a b x hb less in absurd (omega arith)
  | inr (inr more) ↦ let before : triangle x + y < triangle a = row_before x y a hy more in absurd (omega arith)
]

pub cell_apart : (u v a b : ℕ) → (u ≡ v → ⊥) → (a ≡ b → ⊥) → eqb (cell a b) (cell u v) ≡ same_pair u v a b
cell_apart u v a b ne ne' =
    let there : cell a b ≡ cell u v → (max a b ≡ max u v) × (min a b ≡ min u v) =
    λ e. row_place (max a b) (min a b) (max u v) (min u v) (omega arith) (omega arith) e in
    let back : (max a b ≡ max u v) → (min a b ≡ min u v) → cell a b ≡ cell u v = λ e f. rw (e, f) in
    elim (cases_eq (cell a b) (cell u v)) [
      | inl e ↦ let p = there e in
          let same : same_pair u v a b ≡ true = pairs p.0 p.1 in
          eq-eqb (cell a b) (cell u v) e ∙ sym same
      | inr n ↦ ne_eqb (cell a b) (cell u v) n ∙ sym (not_pair (λ e f. n (back e f)))
    ]
  where
    pairs : (max a b ≡ max u v) → (min a b ≡ min u v) → same_pair u v a b ≡ true
    pairs e f = grind (arith, nat_tests)

    not_pair : ((max a b ≡ max u v) → (min a b ≡ min u v) → ⊥) → same_pair u v a b ≡ false
    not_pair n = elim (cases_Bool (same_pair u v a b)) [
      | inl t ↦ elim (pair_is u v a b t) [
        | inl (x, y) ↦ absurd (n (rw (x, y)) (rw (x, y)))
        | inr (x, y) ↦ absurd (n (rw (x, y) (omega arith)) (rw (x, y) (omega arith)))
      ]
      | inr t ↦ t
    ]

-- every place that n vertices use lies in a byte that they need
pub place_byte : (n i : ℕ) → i < triangle n → i / 8 < bytes_for n
place_byte n i h = omega arith
