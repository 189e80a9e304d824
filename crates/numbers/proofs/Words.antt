-- The laws of a word's digits.
use Rattle.std.proofs.Common.{◌≡◌, ℕ, zero, suc, ◌+◌, ◌-◌, ◌*◌, ◌/◌, ◌%◌, ◌^◌, ◌<◌, min, max, true, false, cond, not, ◌&&◌, ◌||◌, eqb, ltb, sym, refl, ap, ◌∙◌, inl, inr, pow-suc, zero-add, one-add, arith, shr-shr}
use lib.Bits.{bit_and, bit_or}
use lib.Count.{ones, ones_step, count_trailing_zeros}
use Rattle.std.specs.Int.{bit_at}
use Rattle.std.proofs.lemmas.Bool.{cases_eq, cases_lt, eq-eqb, eqb-true, lt-ltb, le-ltb, ne_eqb}
use Rattle.std.proofs.lemmas.Bool.Decides.{nat_tests}
use Rattle.std.proofs.lemmas.Nat.Bits.{bit_at-zero, bit_at_above, bit_at_and, bit_at_or, bit_at-lt, bit_at-pow_same, bit_at-pow_other, bit_at_ones, bit_at_ones_above}
use Rattle.numbers.specs.Counting.{count}
use Rattle.numbers.specs.Words.{bit}
use Rattle.numbers.proofs.Counting.{count_same, count_split}

pub bit_shift : (w j k : ℕ) → bit (w / 2 ^ j) k ≡ bit w (j + k)
unfolding bit
bit_shift w j k = rw shr-shr

pub bit_suc : (w k : ℕ) → bit w (suc k) ≡ bit (w / 2) k
bit_suc w k = sym (bit_shift w 1 k ∙ ap (bit w) (one-add k))

pub bit_low : (w : ℕ) → bit w 0 ≡ eqb (w % 2) 1
unfolding bit
bit_low w = let e : w / 1 ≡ w = omega arith in rw e

pub bit_zero : (k : ℕ) → bit 0 k ≡ false
unfolding bit
bit_zero k = ap (λ d. eqb d 1) (bit_at-zero k)

-- a word of m digits has none from m on
pub bit_below : (m w k : ℕ) → w < 2 ^ m → bit w k ≡ true → k < m
unfolding bit
bit_below m w k h t =
    let one = eqb-true (bit_at w k) 1 t in
    elim (cases_lt k m) [ inl l ↦ l | inr g ↦ absurd (omega (arith, one, bit_at_above w m k h g)) ]

-- ---- and, or

digit_and : (x y : ℕ) → x < 2 → y < 2 → eqb (min x y) 1 ≡ (eqb x 1 && eqb y 1)
digit_and x y hx hy = grind (arith, nat_tests)

digit_or : (x y : ℕ) → x < 2 → y < 2 → eqb (max x y) 1 ≡ (eqb x 1 || eqb y 1)
digit_or x y hx hy = grind (arith, nat_tests)

-- the same of a single digit each, as the code joins them
digit_bit_and : (x y : ℕ) → x < 2 → y < 2 → eqb (bit_and x y) 1 ≡ (eqb x 1 && eqb y 1)
digit_bit_and zero y hx hy = refl
digit_bit_and (suc zero) zero hx hy = refl
digit_bit_and (suc zero) (suc zero) hx hy = refl
digit_bit_and (suc zero) (suc (suc y)) hx hy = absurd (omega arith)
digit_bit_and (suc (suc x)) y hx hy = absurd (omega arith)

digit_bit_or : (x y : ℕ) → x < 2 → y < 2 → eqb (bit_or x y) 1 ≡ (eqb x 1 || eqb y 1)
digit_bit_or zero y hx hy = refl
digit_bit_or (suc zero) zero hx hy = refl
digit_bit_or (suc zero) (suc zero) hx hy = refl
digit_bit_or (suc zero) (suc (suc y)) hx hy = absurd (omega arith)
digit_bit_or (suc (suc x)) y hx hy = absurd (omega arith)

pub bit-bit_and : (a b k : ℕ) → bit (bit_and a b) k ≡ (bit a k && bit b k)
unfolding bit
bit-bit_and a b k = ap (λ d. eqb d 1) (bit_at_and a b k) ∙ digit_and (bit_at a k) (bit_at b k) (bit_at-lt a k) (bit_at-lt b k)

pub bit-bit_or : (a b k : ℕ) → bit (bit_or a b) k ≡ (bit a k || bit b k)
unfolding bit
bit-bit_or a b k = ap (λ d. eqb d 1) (bit_at_or a b k) ∙ digit_or (bit_at a k) (bit_at b k) (bit_at-lt a k) (bit_at-lt b k)

-- ---- not, and a single digit

digit_not : (x y : ℕ) → x + y ≡ 1 → eqb y 1 ≡ not (eqb x 1)
digit_not x y h = grind (arith, nat_tests)

-- two words that make up all ones between them
pub bit_not : (m b c k : ℕ) → b + c + 1 ≡ 2 ^ m → k < m → bit c k ≡ not (bit b k)
bit_not zero b c k e l = absurd (omega arith)
bit_not (suc m) b c zero e l =
    let p : 2 ^ suc m ≡ 2 ^ m * 2 = pow-suc 2 m in
    rw (bit_low b, bit_low c) (digit_not (b % 2) (c % 2) (omega arith))
bit_not (suc m) b c (suc k) e l =
    let p : 2 ^ suc m ≡ 2 ^ m * 2 = pow-suc 2 m in
    rw (bit_suc b k, bit_suc c k) (bit_not m (b / 2) (c / 2) k (omega arith) (omega arith))

-- what the code takes out by a mask
pub bit_and_not : (a b k : ℕ) → b < 2 ^ 64 → k < 64 → bit (bit_and a ((2 ^ 64 - 1) - b)) k ≡ (bit a k && not (bit b k))
bit_and_not a b k h l = bit-bit_and a ((2 ^ 64 - 1) - b) k ∙ rw (bit_not 64 b ((2 ^ 64 - 1) - b) k (omega arith) l)

pub bit_pow : (j k : ℕ) → bit (2 ^ j) k ≡ eqb k j
unfolding bit
bit_pow j k =
    elim (cases_eq k j) [
      | inl e ↦ rw e (ap (λ d. eqb d 1) (bit_at-pow_same j) ∙ sym (eq-eqb j j refl))
      | inr d ↦ ap (λ d. eqb d 1) (bit_at-pow_other j k d) ∙ sym (ne_eqb k j d)
    ]

pub bit_ones : (m k : ℕ) → bit (2 ^ m - 1) k ≡ ltb k m
unfolding bit
bit_ones m k =
    elim (cases_lt k m) [
      | inl l ↦ ap (λ d. eqb d 1) (bit_at_ones m k l) ∙ sym (lt-ltb k m l)
      | inr g ↦ ap (λ d. eqb d 1) (bit_at_ones_above m k g) ∙ sym (le-ltb k m g)
    ]

-- ---- what `count_ones` and `trailing_zeros` answer

digit_count : (x : ℕ) → x < 2 → x ≡ cond (eqb x 1) 1 0
digit_count x h = grind (arith, nat_tests)

pub ones_count : (m w : ℕ) → w < 2 ^ m → ones w ≡ count (bit w) m
unfolding count ones
ones_count zero w h = let e : w ≡ 0 = omega arith in rw e
ones_count (suc m) w h =
    let p : 2 ^ suc m ≡ 2 ^ m * 2 = pow-suc 2 m in
    let rest : ones (w / 2) ≡ count (bit (w / 2)) m = ones_count m (w / 2) (omega arith) in
    let same : count (λ j. bit w (1 + j)) m ≡ count (bit (w / 2)) m =
    count_same (λ j. bit w (1 + j)) (bit (w / 2)) m (λ k l. ap (bit w) (one-add k) ∙ bit_suc w k) in
    let two : count (bit w) (1 + m) ≡ count (bit w) 1 + count (λ j. bit w (1 + j)) m = count_split (bit w) 1 m in
    let low : count (bit w) 1 ≡ w % 2 = zero-add (cond (bit w 0) 1 0) ∙ ap (λ b. cond {A = ℕ} b 1 0) (bit_low w) ∙ sym (digit_count (w % 2) (omega arith)) in
    let step : ones w ≡ w % 2 + ones (w / 2) = ones_step w in
    let name : count (bit w) (1 + m) ≡ count (bit w) (suc m) = ap (count (bit w)) (one-add m) in
    omega arith

-- a word that is not 0 has a lowest digit that is set
pub lowest : (m w : ℕ) → 0 < w → w < 2 ^ m
    → (count_trailing_zeros m w < m) × (bit w (count_trailing_zeros m w) ≡ true) × ((j : ℕ) → j < count_trailing_zeros m w → bit w j ≡ false)
unfolding count_trailing_zeros
lowest zero w p h = absurd (omega arith)
lowest (suc m) w p h =
    let e : 2 ^ suc m ≡ 2 ^ m * 2 = pow-suc 2 m in
    elim (cases_eq (w % 2) 0) [
      | inl z ↦
          let rest = lowest m (w / 2) (omega arith) (omega arith) in
          rw z (
            omega arith,
            bit_suc w (count_trailing_zeros m (w / 2)) ∙ rest.1,
            λ j l. below (count_trailing_zeros m (w / 2)) z rest.2 j l,
          )
      | inr d ↦
          let o : w % 2 ≡ 1 = omega arith in
          rw o (omega arith, bit_low w ∙ rw o, λ j l. absurd (omega arith))
    ]
  where
    below : (t : ℕ) → w % 2 ≡ 0 → ((j : ℕ) → j < t → bit (w / 2) j ≡ false) → (j : ℕ) → j < suc t → bit w j ≡ false
    below t z h zero l = bit_low w ∙ rw z
    below t z h (suc j) l = bit_suc w j ∙ h j (omega arith)
