-- The laws of membership in a row of words.
use Rattle.std.proofs.Common.{◌≡◌, ℕ, ◌+◌, ◌-◌, ◌*◌, ◌/◌, ◌%◌, ◌^◌, ◌<◌, ◌≤◌, Bool, true, false, cond, not, ◌&&◌, ◌||◌, eqb, ltb, ◌≢◌, List, [], ◌∷◌, length, suc, sum_by, get_or, set, sym, refl, ap, ap₂, ◌∙◌, inl, inr, arith, get_or-set_other, get_or-set_same}
use lib.Bits.{bit_and, bit_or}
use lib.Count.{ones, count_trailing_zeros}
use lib.ListN.{get_or-eq_default}
use lib.Pow.{pow-lt}
use Rattle.std.proofs.Math.Bool.{and-true, and-false, or-false}
use Rattle.std.proofs.lemmas.Nat.{one_shl, div-mul-add, mod-mul-add}
use Rattle.std.proofs.lemmas.Bool.{cases_eq, cases_lt, eq-eqb, lt-ltb, le-ltb, ne_eqb}
use Rattle.std.proofs.lemmas.Bool.Decides.{nat_tests}
use Rattle.std.proofs.lemmas.List.Sums.{sum_by-cons}
use Rattle.numbers.specs.Counting.{count}
use Rattle.numbers.specs.Words.{bit, member}
use Rattle.numbers.proofs.Counting.{count_zero, count_same, count_split}
use Rattle.numbers.proofs.Words.{bit_below, bit_zero, bit-bit_or, bit_and_not, bit_pow, bit_shift, lowest, ones_count}

member_is : (ws : List ℕ) (k : ℕ) → member ws k ≡ bit (get_or ws (k / 64) 0) (k % 64)
unfolding member
member_is ws k = refl

pub member_large : (ws : List ℕ) (k : ℕ) → length ws ≡ 8 → 512 ≤ k → member ws k ≡ false
unfolding member
member_large ws k e h =
    let past : length ws ≤ k / 64 = omega arith in
    rw (get_or-eq_default ws 0 past) (bit_zero (k % 64))

-- the word at i holds the numbers from i * 64 on
pub member_at : (ws : List ℕ) (i j : ℕ) → j < 64 → member ws (i * 64 + j) ≡ bit (get_or ws i 0) j
unfolding member
member_at ws i j h = rw (div-mul-add i 64 j h, mod-mul-add i 64 j h)

-- ---- one word changed

put_same : (ws : List ℕ) (i v k : ℕ) → i < length ws → k / 64 ≡ i → member (set ws i v) k ≡ bit v (k % 64)
unfolding member
put_same ws i v k l e = rw (e, get_or-set_same ws i v 0 l)

put_other : (ws : List ℕ) (i v k : ℕ) → k / 64 ≢ i → member (set ws i v) k ≡ member ws k
unfolding member
put_other ws i v k d = rw (get_or-set_other ws i (k / 64) v 0 d)

-- numbers of one word are told apart by their digit
eqb_digit : (k n : ℕ) → k / 64 ≡ n / 64 → eqb (k % 64) (n % 64) ≡ eqb k n
eqb_digit k n e =
    elim (cases_eq k n) [
      | inl s ↦ eq-eqb (k % 64) (n % 64) (ap (λ x. x % 64) s) ∙ sym (eq-eqb k n s)
      | inr d ↦ ne_eqb (k % 64) (n % 64) (λ s. d (omega arith)) ∙ sym (ne_eqb k n d)
    ]

pub or_cond : (b e : Bool) → (b || e) ≡ cond e true b
or_cond b e = grind (arith, nat_tests)

pub and_cond : (b e : Bool) → (b && not e) ≡ cond e false b
and_cond b e = grind (arith, nat_tests)

pub member_insert : (ws : List ℕ) (n k : ℕ) → length ws ≡ 8 → n < 512
    → member (set ws (n / 64) (bit_or (get_or ws (n / 64) 0) ((1 * 2 ^ (n % 64)) % 2 ^ 64))) k ≡ (member ws k || eqb k n)
member_insert ws n k e h =
    let inside : n / 64 < length ws = omega arith in
    elim (cases_eq (k / 64) (n / 64)) [
      | inl s ↦
          put_same ws (n / 64) _ k inside s
          ∙ rw (one_shl (n % 64) 64 (omega arith), bit-bit_or (get_or ws (n / 64) 0) (2 ^ (n % 64)) (k % 64), bit_pow (n % 64) (k % 64), eqb_digit k n s, ← s) (ap (λ b. b || eqb k n) (sym (member_is ws k)))
      | inr d ↦
          put_other ws (n / 64) _ k d ∙ sym (or-false (member ws k)) ∙ ap (λ b. member ws k || b) (sym (ne_eqb k n (λ s. d (ap (λ x. x / 64) s))))
    ]

pub member_remove : (ws : List ℕ) (n k : ℕ) → length ws ≡ 8 → n < 512
    → member (set ws (n / 64) (bit_and (get_or ws (n / 64) 0) ((2 ^ 64 - 1) - (1 * 2 ^ (n % 64)) % 2 ^ 64))) k ≡ (member ws k && not (eqb k n))
member_remove ws n k e h =
    let inside : n / 64 < length ws = omega arith in
    let room : 2 ^ (n % 64) < 2 ^ 64 = pow-lt {j = 64} (omega arith) in
    elim (cases_eq (k / 64) (n / 64)) [
      | inl s ↦
          put_same ws (n / 64) _ k inside s
          ∙ rw (
            one_shl (n % 64) 64 (omega arith),
            bit_and_not (get_or ws (n / 64) 0) (2 ^ (n % 64)) (k % 64) room (omega arith),
            bit_pow (n % 64) (k % 64),
            eqb_digit k n s,
            ← s,
          ) (ap (λ b. b && not (eqb k n)) (sym (member_is ws k)))
      | inr d ↦
          put_other ws (n / 64) _ k d ∙ sym (and-true (member ws k)) ∙ ap (λ b. member ws k && not b) (sym (ne_eqb k n (λ s. d (ap (λ x. x / 64) s))))
    ]

-- ---- two rows, word by word

-- each digit of the words below n is f of the digits of two rows
abbrev pub Joins : (Bool → Bool → Bool) → List ℕ → List ℕ → List ℕ → ℕ → Type 0
Joins f xs ys ws n = (i : ℕ) → i < n → (j : ℕ) → j < 64 → bit (get_or ws i 0) j ≡ f (bit (get_or xs i 0) j) (bit (get_or ys i 0) j)

-- where each digit of the words is f of the digits of two rows, so is each member
pub joined : (f : Bool → Bool → Bool) (xs ys ws : List ℕ) (k : ℕ) → f false false ≡ false
    → length xs ≡ 8 → length ys ≡ 8 → length ws ≡ 8 → Joins f xs ys ws 8 → member ws k ≡ f (member xs k) (member ys k)
unfolding member
joined f xs ys ws k z a b c h =
    elim (cases_lt (k / 64) 8) [
      | inl l ↦ h (k / 64) l (k % 64) (omega arith)
      | inr g ↦
          let p : length xs ≤ k / 64 = omega arith in
          let q : length ys ≤ k / 64 = omega arith in
          let r : length ws ≤ k / 64 = omega arith in
          rw (get_or-eq_default xs 0 p, get_or-eq_default ys 0 q, get_or-eq_default ws 0 r, bit_zero (k % 64)) (sym z)
    ]

-- one more word written
pub joins_more : (f : Bool → Bool → Bool) (xs ys ws : List ℕ) (n v : ℕ) → n < length ws → Joins f xs ys ws n
    → ((j : ℕ) → j < 64 → bit v j ≡ f (bit (get_or xs n 0) j) (bit (get_or ys n 0) j)) → Joins f xs ys (set ws n v) (n + 1)
joins_more f xs ys ws n v l h here i g j m =
    elim (cases_eq i n) [
      | inl s ↦ rw (s, get_or-set_same ws n v 0 l) (here j m)
      | inr d ↦ rw (get_or-set_other ws n i v 0 d) (h i (omega arith) j m)
    ]

-- ---- counting

-- one more word of the row counts one more word's digits
pub count_word : (ws : List ℕ) (i : ℕ) → get_or ws i 0 < 2 ^ 64
    → count (member ws) (i * 64 + 64) ≡ count (member ws) (i * 64) + ones (get_or ws i 0)
count_word ws i h =
    count_split (member ws) (i * 64) 64
    ∙ ap (λ x. count (member ws) (i * 64) + x)
    (count_same (λ j. member ws (i * 64 + j)) (bit (get_or ws i 0)) 64 (λ j l. member_at ws i j l) ∙ sym (ones_count 64 (get_or ws i 0) h))

-- behind the first word stand the members of the rest
member_behind : (w : ℕ) (ws : List ℕ) (j : ℕ) → member (w ∷ ws) (64 + j) ≡ member ws j
unfolding member
member_behind w ws j =
    let word : (64 + j) / 64 ≡ suc (j / 64) = omega arith in
    let digit : (64 + j) % 64 ≡ j % 64 = omega arith in
    rw (word, digit)

pub count_words : (ws : List ℕ) → count (member ws) (length ws * 64) ≡ sum_by (λ w. count (bit w) 64) ws
count_words [] = count_zero (member [])
count_words (w ∷ ws) =
    let size : length (w ∷ ws) * 64 ≡ 64 + length ws * 64 = omega arith in
    let here : count (member (w ∷ ws)) 64 ≡ count (bit w) 64 = count_same (member (w ∷ ws)) (bit w) 64
    (λ j l. let name : 0 * 64 + j ≡ j = omega arith in ap (member (w ∷ ws)) (sym name) ∙ member_at (w ∷ ws) 0 j l) in
    let rest : count (λ j. member (w ∷ ws) (64 + j)) (length ws * 64) ≡ count (member ws) (length ws * 64) =
    count_same (λ j. member (w ∷ ws) (64 + j)) (member ws) (length ws * 64) (λ j _. member_behind w ws j) in
    ap (count (member (w ∷ ws))) size
    ∙ count_split (member (w ∷ ws)) 64 (length ws * 64)
    ∙ ap₂ (λ a b. a + b) here (rest ∙ count_words ws)
    ∙ sym (sum_by-cons (λ w. count (bit w) 64) w ws)

-- ---- the lowest member from a place on

-- the word that holds `from`, without the digits below it
rest_member : (ws : List ℕ) (from d : ℕ) → from % 64 + d < 64
    → member ws (from + d) ≡ bit (get_or ws (from / 64) 0 / 2 ^ (from % 64)) d
rest_member ws from d h =
    let name : from + d ≡ from / 64 * 64 + (from % 64 + d) = omega arith in
    ap (member ws) name ∙ member_at ws (from / 64) (from % 64 + d) h ∙ sym (bit_shift (get_or ws (from / 64) 0) (from % 64) d)

pub empty_rest : (ws : List ℕ) (from j : ℕ) → get_or ws (from / 64) 0 / 2 ^ (from % 64) ≡ 0
    → from ≤ j → j < (from / 64 + 1) * 64 → member ws j ≡ false
empty_rest ws from j e a b =
    let name : from + (j - from) ≡ j = omega arith in
    ap (member ws) (sym name) ∙ rest_member ws from (j - from) (omega arith) ∙ rw e (bit_zero (j - from))

pub found_rest : (ws : List ℕ) (from r : ℕ) → r ≡ get_or ws (from / 64) 0 / 2 ^ (from % 64) → get_or ws (from / 64) 0 < 2 ^ 64 → 0 < r → r < 2 ^ 64
    → (from % 64 + count_trailing_zeros 64 r < 64) × (member ws (from + count_trailing_zeros 64 r) ≡ true)
    × ((j : ℕ) → from ≤ j → j < from + count_trailing_zeros 64 r → member ws j ≡ false)
found_rest ws from r e h p q =
    let low = lowest 64 r p q in
    let inside : from % 64 + count_trailing_zeros 64 r < 64 =
    bit_below 64 (get_or ws (from / 64) 0) (from % 64 + count_trailing_zeros 64 r) h
    (sym (bit_shift (get_or ws (from / 64) 0) (from % 64) (count_trailing_zeros 64 r)) ∙ rw (← e) low.1) in (
      inside,
      rest_member ws from (count_trailing_zeros 64 r) inside ∙ rw (← e) low.1,
      λ j a b.
          let name : from + (j - from) ≡ j = omega arith in
          ap (member ws) (sym name) ∙ rest_member ws from (j - from) (omega arith) ∙ rw (← e) (low.2 (j - from) (omega arith)),
    )

-- ---- a run of numbers from 0 on

-- each digit of the words below m is set for the numbers below n
abbrev pub Fills : ℕ → List ℕ → ℕ → Type 0
Fills n ws m = (i : ℕ) → i < m → (j : ℕ) → j < 64 → bit (get_or ws i 0) j ≡ ltb (i * 64 + j) n

pub filled : (n : ℕ) (ws : List ℕ) (k : ℕ) → length ws ≡ 8 → Fills n ws 8 → member ws k ≡ (ltb k n && ltb k 512)
filled n ws k e h =
    elim (cases_lt k 512) [
      | inl l ↦
          let name : k / 64 * 64 + k % 64 ≡ k = omega arith in
          member_is ws k ∙ h (k / 64) (omega arith) (k % 64) (omega arith) ∙ rw (name, lt-ltb k 512 l) (sym (and-true (ltb k n)))
      | inr g ↦ member_large ws k e g ∙ rw (le-ltb k 512 g) (sym (and-false (ltb k n)))
    ]

-- one more word filled
pub fills_more : (n : ℕ) (ws : List ℕ) (m v : ℕ) → m < length ws → Fills n ws m
    → ((j : ℕ) → j < 64 → bit v j ≡ ltb j (n - m * 64)) → Fills n (set ws m v) (m + 1)
fills_more n ws m v l h here i g j b =
    elim (cases_eq i m) [
      | inl s ↦ rw (s, get_or-set_same ws m v 0 l) (here j b ∙ shifted)
      | inr d ↦ rw (get_or-set_other ws m i v 0 d) (h i (omega arith) j b)
    ]
  where
    shifted : ltb j (n - m * 64) ≡ ltb (m * 64 + j) n
    shifted =
        elim (cases_lt (m * 64 + j) n) [
          | inl q ↦ lt-ltb j (n - m * 64) (omega arith) ∙ sym (lt-ltb (m * 64 + j) n q)
          | inr q ↦ le-ltb j (n - m * 64) (omega arith) ∙ sym (le-ltb (m * 64 + j) n q)
        ]
