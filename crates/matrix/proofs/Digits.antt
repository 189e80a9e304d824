-- The bits of a byte and of a row of bytes. Assumes nothing.
use Rattle.std.proofs.Common.{◌≡◌, ℕ, zero, suc, ◌*◌, ◌/◌, ◌%◌, ◌^◌, ◌<◌, Bool, false, ◌||◌, eqb, ◌≢◌, List, length, get_or, set, sym, refl, ap, ◌∙◌, inl, inr, pow-suc, one-add, arith, get_or-set_other, get_or-set_same, shr-shr}
use lib.Bits.{bit_and, bit_or, and_mask, or_shr, or_mod}
use lib.Dec.{eqb-zero-suc, eqb-suc-zero, eqb-suc-suc}
use Rattle.std.proofs.Math.Bool.{or-false}
use Rattle.std.proofs.lemmas.Bool.{cases_eq, eq-eqb, ne_eqb}
use Rattle.matrix.specs.Layout.{bit, bit_at}

pub bit_low : (w : ℕ) → bit w 0 ≡ eqb (w % 2) 1
unfolding bit
bit_low w = let e : w / 1 ≡ w = omega arith in rw e

pub bit_suc : (w k : ℕ) → bit w (suc k) ≡ bit (w / 2) k
unfolding bit
bit_suc w k = sym (ap (λ (x : ℕ). eqb (x % 2) 1) (shr-shr w 1 k) ∙ ap (λ (j : ℕ). eqb (w / 2 ^ j % 2) 1) (one-add k))

pub bit_zero : (k : ℕ) → bit 0 k ≡ false
bit_zero zero = bit_low 0
bit_zero (suc k) = bit_suc 0 k ∙ bit_zero k

digit_or : (x y : ℕ) → x < 2 → y < 2 → eqb (bit_or x y) 1 ≡ (eqb x 1 || eqb y 1)
digit_or zero y hx hy = refl
digit_or (suc zero) zero hx hy = refl
digit_or (suc zero) (suc zero) hx hy = refl
digit_or (suc zero) (suc (suc y)) hx hy = absurd (omega arith)
digit_or (suc (suc x)) y hx hy = absurd (omega arith)

pub bit-bit_or : (a b k : ℕ) → bit (bit_or a b) k ≡ (bit a k || bit b k)
unfolding bit
bit-bit_or a b k =
    rw (or_shr a b k, or_mod (a / 2 ^ k) (b / 2 ^ k) 1)
    (digit_or (a / 2 ^ k % 2) (b / 2 ^ k % 2) (omega arith) (omega arith))

pub bit_pow : (j k : ℕ) → bit (2 ^ j) k ≡ eqb k j
bit_pow zero zero = bit_low 1
bit_pow zero (suc k) = bit_suc 1 k ∙ (bit_zero k ∙ sym (eqb-suc-zero k))
bit_pow (suc j) zero =
    let p : 2 ^ suc j ≡ 2 ^ j * 2 = pow-suc 2 j in
    let e : 2 ^ suc j % 2 ≡ 0 = omega arith in
    bit_low (2 ^ suc j) ∙ rw e (sym (eqb-zero-suc j))
bit_pow (suc j) (suc k) =
    let p : 2 ^ suc j ≡ 2 ^ j * 2 = pow-suc 2 j in
    let e : 2 ^ suc j / 2 ≡ 2 ^ j = omega arith in
    bit_suc (2 ^ suc j) k ∙ rw e (bit_pow j k ∙ sym (eqb-suc-suc k j))

-- what code reads by a shift and a mask
pub bit_read : (w k : ℕ) → eqb (bit_and (w / 2 ^ k) 1) 1 ≡ bit w k
unfolding bit
bit_read w k = ap (λ (x : ℕ). eqb x 1) (and_mask (w / 2 ^ k) 1)

place_is : (i j : ℕ) → i / 8 ≡ j / 8 → i % 8 ≡ j % 8 → i ≡ j
place_is i j e f = omega arith

-- setting the bit at place i sets that one and no other
pub bit_set : (bytes : List ℕ) (i j : ℕ) → i / 8 < length bytes →
    bit_at (set bytes (i / 8) (bit_or (get_or bytes (i / 8) 0) (2 ^ (i % 8)))) j ≡ (bit_at bytes j || eqb j i)
bit_set bytes i j h = elim (cases_eq (j / 8) (i / 8)) [
  | inl same ↦
      let digit : eqb (j % 8) (i % 8) ≡ eqb j i = elim (cases_eq j i) [
        | inl e ↦ eq-eqb (j % 8) (i % 8) (ap (λ (x : ℕ). x % 8) e) ∙ sym (eq-eqb j i e)
        | inr n ↦ ne_eqb (j % 8) (i % 8) (λ e. n (place_is j i same e)) ∙ sym (ne_eqb j i n)
      ] in
      rw (same, get_or-set_same bytes (i / 8) (bit_or (get_or bytes (i / 8) 0) (2 ^ (i % 8))) 0 h)
      (bit-bit_or (get_or bytes (i / 8) 0) (2 ^ (i % 8)) (j % 8)
      ∙ ap (λ (b : Bool). bit (get_or bytes (i / 8) 0) (j % 8) || b) (bit_pow (i % 8) (j % 8) ∙ digit))
  | inr other ↦
      let apart : j / 8 ≢ i / 8 = other in
      let never : eqb j i ≡ false = ne_eqb j i (λ e. other (ap (λ (x : ℕ). x / 8) e)) in
      rw (get_or-set_other bytes (i / 8) (j / 8) (bit_or (get_or bytes (i / 8) 0) (2 ^ (i % 8))) 0 apart, never)
      (sym (or-false (bit (get_or bytes (j / 8) 0) (j % 8))))
]
