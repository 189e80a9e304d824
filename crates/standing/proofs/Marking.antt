-- Counting with a row of marks: what has a mark was counted before. Assumes nothing.
use Rattle.std.proofs.Common.{◌≡◌, ℕ, zero, suc, ◌+◌, ◌<◌, ◌≤◌, Bool, true, false, cond, not, ◌&&◌, ◌||◌, eqb, List, length, get_or, set, replicate, refl, ap, ◌∙◌, inl, inr, add-one, arith}
use Rattle.std.proofs.lemmas.Bool.{cases_lt}
use Rattle.std.proofs.lemmas.Bool.Decides.{nat_tests}
use Rattle.std.proofs.lemmas.List.{get_or-set_same, get_or-set_other, get_or-replicate, get_or_past, length-replicate}
use Rattle.graph.specs.Counting.{count}
use Rattle.standing.specs.Standing.{marked}

-- found is how many below w pass and had no mark; what passes below w has one now, and nothing else was changed
abbrev pub Counted : (ℕ → Bool) → List ℕ → List ℕ → ℕ → ℕ → Type 0
Counted passes start marks found w =
    (found ≡ count (λ k. passes k && not (marked start k)) w) ×
    ((k : ℕ) → k < w → marked marks k ≡ (marked start k || passes k)) ×
    ((k : ℕ) → w ≤ k → get_or marks k 0 ≡ get_or start k 0)

count_passed : (p : ℕ → Bool) (n found : ℕ) → found ≡ count p n → p n ≡ true → found + 1 ≡ count p (n + 1)
count_passed p n found h e = let more : count p (n + 1) ≡ count p n + 1 = rw (add-one n, e) in omega arith

count_failed : (p : ℕ → Bool) (n found : ℕ) → found ≡ count p n → p n ≡ false → found ≡ count p (n + 1)
count_failed p n found h e = let more : count p (n + 1) ≡ count p n + 0 = rw (add-one n, e) in omega arith

test_then : (m p : Bool) → (m && p) ≡ true → (p && not (not m)) ≡ true
test_then m p h = grind (arith, nat_tests)

test_else : (m p : Bool) → (m && p) ≡ false → (p && not (not m)) ≡ false
test_else m p h = grind (arith, nat_tests)

kept_else : (m p : Bool) → (m && p) ≡ false → not m ≡ (not m || p)
kept_else m p h = grind (arith, nat_tests)

now_then : (m p : Bool) → (m && p) ≡ true → true ≡ (not m || p)
now_then m p h = grind (arith, nat_tests)

module _ (passes : ℕ → Bool) (start marks : List ℕ) (found w : ℕ) (so_far : Counted passes start marks found w) where
  here : eqb (get_or marks w 0) 0 ≡ eqb (get_or start w 0) 0
  here = ap (λ (k : ℕ). eqb k 0) (so_far.2 w (omega arith))

  pub count_else : (eqb (get_or marks w 0) 0 && passes w) ≡ false → Counted passes start marks found (w + 1)
  count_else no-pass =
      let was : (eqb (get_or start w 0) 0 && passes w) ≡ false = rw here at no-pass in (
        count_failed (λ k. passes k && not (marked start k)) w found so_far.0 (test_else _ (passes w) was),
        λ k l. elim (cases_lt k w) [
          | inl below ↦ so_far.1 k below
          | inr above ↦
              let e : k ≡ w = omega arith in
              let at-w : marked marks w ≡ (marked start w || passes w) = ap not here ∙ kept_else (eqb (get_or start w 0) 0) (passes w) was in
              rw e at-w
        ],
        λ k l. so_far.2 k (omega arith),
      )

  pub count_then : w < length marks → (eqb (get_or marks w 0) 0 && passes w) ≡ true → Counted passes start (set marks w 1) (found + 1) (w + 1)
  count_then inside pass =
      let was : (eqb (get_or start w 0) 0 && passes w) ≡ true = rw here at pass in (
        count_passed (λ k. passes k && not (marked start k)) w found so_far.0 (test_then _ (passes w) was),
        λ k l. elim (cases_lt k w) [
          | inl below ↦
              let other : get_or (set marks w 1) k 0 ≡ get_or marks k 0 = get_or-set_other marks w k 1 0 (λ e. omega arith) in
              ap (λ (m : ℕ). not (eqb m 0)) other ∙ so_far.1 k below
          | inr above ↦
              let e : k ≡ w = omega arith in
              let one : get_or (set marks w 1) w 0 ≡ 1 = get_or-set_same marks w 1 0 inside in
              let at-w : marked (set marks w 1) w ≡ (marked start w || passes w) =
              ap (λ (m : ℕ). not (eqb m 0)) one ∙ now_then (eqb (get_or start w 0) 0) (passes w) was in
              rw e at-w
        ],
        λ k l. get_or-set_other marks w k 1 0 (λ e. omega arith) ∙ so_far.2 k (omega arith),
      )

pub counted_at : (passes : ℕ → Bool) (start marks marks' : List ℕ) (found found' w : ℕ) → marks ≡ marks' → found ≡ found' →
    Counted passes start marks' found' (w + 1) → Counted passes start marks found (w + 1)
counted_at passes start marks marks' found found' w e f h = rw (e, f) h

-- at the end, where nothing from w on passes
pub marks_all : (passes : ℕ → Bool) (start marks : List ℕ) (found w : ℕ) → Counted passes start marks found w →
    ((k : ℕ) → w ≤ k → passes k ≡ false) → (k : ℕ) → marked marks k ≡ (marked start k || passes k)
marks_all passes start marks found w s none k = elim (cases_lt k w) [
  | inl l ↦ s.1 k l
  | inr h ↦
      let out : passes k ≡ false = none k h in
      let same : marked marks k ≡ marked start k = ap (λ (m : ℕ). not (eqb m 0)) (s.2 k h) in
      rw out (same ∙ or_nothing (marked start k))
]
  where
    or_nothing : (a : Bool) → a ≡ (a || false)
    or_nothing a = grind (arith, nat_tests)

pub unmarked : (n k : ℕ) → marked (replicate n 0) k ≡ false
unmarked n k = elim (cases_lt k n) [
  | inl l ↦ let e : get_or {A = ℕ} (replicate n 0) k 0 ≡ 0 = get_or-replicate n k 0 0 l in rw e
  | inr h ↦
      let long : length {A = ℕ} (replicate n 0) ≤ k = rw (length-replicate {A = ℕ} n 0) h in
      let e : get_or {A = ℕ} (replicate n 0) k 0 ≡ 0 = get_or_past (replicate n 0) k 0 long in
      rw e
]

-- what either passes is what one passes and what only the other does
pub both_counts : (a b c : ℕ → Bool) (n : ℕ) → ((k : ℕ) → c k ≡ (a k || b k)) → count a n + count (λ k. b k && not (a k)) n ≡ count c n
both_counts a b c zero h = refl
both_counts a b c (suc n) h =
    let before : count a n + count (λ k. b k && not (a k)) n ≡ count c n = both_counts a b c n h in
    let one : cond {A = ℕ} (a n) 1 0 + cond (b n && not (a n)) 1 0 ≡ cond (c n) 1 0 = rw (h n) (ones (a n) (b n)) in
    omega arith
  where
    ones : (x y : Bool) → cond {A = ℕ} x 1 0 + cond (y && not x) 1 0 ≡ cond (x || y) 1 0
    ones x y = elim x as (λ z. cond {A = ℕ} z 1 0 + cond (y && not z) 1 0 ≡ cond (z || y) 1 0) [
      | true ↦ elim y as (λ z. 1 + cond {A = ℕ} (z && false) 1 0 ≡ 1) [ true ↦ refl | false ↦ refl ]
      | false ↦ elim y as (λ z. 0 + cond {A = ℕ} (z && true) 1 0 ≡ cond z 1 0) [ true ↦ refl | false ↦ refl ]
    ]
