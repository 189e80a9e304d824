-- The laws of `count`, `any` and `first`.
use Rattle.std.proofs.Common.{◌≡◌, ℕ, zero, suc, ◌+◌, ◌<◌, ◌≤◌, Bool, true, false, cond, Decides, not, ◌&&◌, eqb, Some, None, sym, refl, ap, ◌∙◌, subst, inl, inr, add-zero, add-suc, arith}
use Rattle.std.proofs.Math.Bool.{and-true, or_comm}
use Rattle.std.proofs.lemmas.Bool.{and_parts, both_ways, cases_Bool, cases_eq, eqb-false, false_from_ne_true, ne_eqb, not-true}
use Rattle.std.proofs.lemmas.Bool.Decides.{Decides-below_or}
use Rattle.numbers.specs.Counting.{count, any, first}

-- ---- count

pub count_zero : (p : ℕ → Bool) → count p 0 ≡ 0
unfolding count
count_zero p = refl

-- only the numbers below n matter
pub count_same : (p q : ℕ → Bool) (n : ℕ) → ((k : ℕ) → k < n → p k ≡ q k) → count p n ≡ count q n
unfolding count
count_same p q zero h = refl
count_same p q (suc n) h =
    let before : count p n ≡ count q n = count_same p q n (λ k l. h k (omega arith)) in
    let here : p n ≡ q n = h n (omega arith) in
    cc

pub count_le : (p : ℕ → Bool) (n : ℕ) → count p n ≤ n
unfolding count
count_le p zero = omega arith
count_le p (suc n) =
    let before : count p n ≤ n = count_le p n in
    elim (p n) as (λ b. count p n + cond b 1 0 ≤ suc n) [ true ↦ omega arith | false ↦ omega arith ]

-- what passes p passes q: p is counted no higher
pub count_mono : (p q : ℕ → Bool) (n : ℕ) → ((k : ℕ) → k < n → p k ≡ true → q k ≡ true) → count p n ≤ count q n
unfolding count
count_mono p q zero h = omega arith
count_mono p q (suc n) h =
    let before : count p n ≤ count q n = count_mono p q n (λ k l. h k (omega arith)) in
    elim (cases_Bool (p n)) [
      | inl e ↦ let f : q n ≡ true = h n (omega arith) e in rw (e, f) (omega arith)
      | inr e ↦ rw e (omega arith)
    ]

-- and lower where some m below n passes only q
pub count_grows : (p q : ℕ → Bool) (n m : ℕ) → ((k : ℕ) → k < n → p k ≡ true → q k ≡ true)
    → m < n → p m ≡ false → q m ≡ true → count p n < count q n
unfolding count
count_grows p q zero m h l e f = omega arith
count_grows p q (suc n) m h l e f =
    let inner : (k : ℕ) → k < n → p k ≡ true → q k ≡ true = λ k j. h k (omega arith) in
    elim (cases_eq m n) [
      | inl s ↦
          let before : count p n ≤ count q n = count_mono p q n inner in
          let e' : p n ≡ false = cc in
          let f' : q n ≡ true = cc in
          rw (e', f') (omega arith)
      | inr d ↦
          let below : m < n = omega arith in
          let before : count p n < count q n = count_grows p q n m inner below e f in
          elim (cases_Bool (p n)) [
            | inl e' ↦ let f' : q n ≡ true = h n (omega arith) e' in rw (e', f') (omega arith)
            | inr e' ↦ rw e' (omega arith)
          ]
    ]

-- the count of the first m numbers and of the n behind them
pub count_split : (p : ℕ → Bool) (m n : ℕ) → count p (m + n) ≡ count p m + count (λ j. p (m + j)) n
unfolding count
count_split p m zero = rw (add-zero m) (sym (add-zero (count p m)))
count_split p m (suc n) =
    let before : count p (m + n) ≡ count p m + count (λ j. p (m + j)) n = count_split p m n in
    rw add-suc (omega arith)

pub count_none : (p : ℕ → Bool) (n : ℕ) → ((k : ℕ) → k < n → p k ≡ false) → count p n ≡ 0
unfolding count
count_none p zero h = refl
count_none p (suc n) h =
    let before : count p n ≡ 0 = count_none p n (λ k l. h k (omega arith)) in
    let here : p n ≡ false = h n (omega arith) in
    rw here (omega arith)

-- taking one number out lowers a count by one at most
pub count_without : (p : ℕ → Bool) (m n : ℕ) → count p n ≤ count (λ k. p k && not (eqb k m)) n + 1
unfolding count
count_without p m zero = omega arith
count_without p m (suc n) =
    elim (cases_eq n m) [
      | inl s ↦
          let same : count p n ≡ count (λ k. p k && not (eqb k m)) n =
          count_same p (λ k. p k && not (eqb k m)) n (λ k l.
          let other : eqb k m ≡ false = ne_eqb k m (λ e. omega arith) in rw other (sym (and-true (p k)))) in
          elim (cases_Bool (p n)) [ inl e ↦ rw e (omega arith) | inr e ↦ rw e (omega arith) ]
      | inr d ↦
          let before : count p n ≤ count (λ k. p k && not (eqb k m)) n + 1 = count_without p m n in
          let other : eqb n m ≡ false = ne_eqb n m d in
          rw (other, and-true (p n)) (omega arith)
    ]

-- Where each r below m that passes q is f of some w below n that passes p, no more pass q than p.
pub count_image : (p q : ℕ → Bool) (f : ℕ → ℕ) (n m : ℕ)
    → ((r : ℕ) → r < m → q r ≡ true → (w : ℕ) × (w < n) × (p w ≡ true) × (f w ≡ r)) → count q m ≤ count p n
unfolding count
count_image p q f zero m h =
    let none : count q m ≡ 0 = count_none q m (λ r l.
    elim (cases_Bool (q r)) [ inl e ↦ absurd (omega (arith, (h r l e).1)) | inr e ↦ e ]) in
    omega arith
count_image p q f (suc n) m h =
    elim (cases_Bool (p n)) [
      | inl here ↦
          let rest : count (λ r. q r && not (eqb r (f n))) m ≤ count p n =
          count_image p (λ r. q r && not (eqb r (f n))) f n m (λ r l e.
          let parts = and_parts (q r) (not (eqb r (f n))) e in
          let w = h r l parts.0 in
          let other : eqb r (f n) ≡ false = not-true (eqb r (f n)) parts.1 in
          let apart : w.0 ≡ n → ⊥ = λ s. eqb-false r (f n) other (sym w.3 ∙ ap f s) in
          (w.0, omega (arith, w.1), w.2, w.3)) in
          let drop : count q m ≤ count (λ r. q r && not (eqb r (f n))) m + 1 = count_without q (f n) m in
          rw here (omega arith)
      | inr off ↦
          let rest : count q m ≤ count p n =
          count_image p q f n m (λ r l e.
          let w = h r l e in
          let apart : w.0 ≡ n → ⊥ = λ s. both_ways (p n) off (sym (ap p s) ∙ w.2) in
          (w.0, omega (arith, w.1), w.2, w.3)) in
          rw off (omega arith)
    ]

-- ---- any

-- `any` is true exactly when some number below n passes
any_decides : (p : ℕ → Bool) (n : ℕ) → Decides (any p n) ((k : ℕ) × (k < n) × (p k ≡ true))
unfolding any
any_decides p n = Decides-below_or p (λ k. p k ≡ true) (any p) (λ k. (λ e. e, λ e. e)) refl (λ m. or_comm (any p m) (p m)) n

pub any_from : (p : ℕ → Bool) (n k : ℕ) → k < n → p k ≡ true → any p n ≡ true
any_from p n k l e = (any_decides p n).1 (k, l, e)

pub any_found : (p : ℕ → Bool) (n : ℕ) → any p n ≡ true → (k : ℕ) × (k < n) × (p k ≡ true)
any_found p n e = (any_decides p n).0 e

pub any_false : (p : ℕ → Bool) (n k : ℕ) → any p n ≡ false → k < n → p k ≡ false
any_false p n k e l = false_from_ne_true (p k) (λ t. both_ways (any p n) e (any_from p n k l t))

-- ---- first

-- what `first` finds passes, is not below `from`, and nothing between passes
pub first_found : (p : ℕ → Bool) (from k n : ℕ) → first p from k ≡ Some n
    → (from ≤ n) × (n < from + k) × (p n ≡ true) × ((j : ℕ) → from ≤ j → j < n → p j ≡ false)
unfolding first
first_found p from zero n e = let z : ◌≡◌ {A = ℕ} 0 1 = cc in absurd (omega arith)
first_found p from (suc k) n e =
    elim (cases_Bool (p from)) [
      | inl t ↦
          let same : Some from ≡ Some n = rw t at e in
          let at : from ≡ n = cc in
          (omega arith, omega arith, subst (λ (x : ℕ). p x ≡ true) at t, λ j a b. absurd (omega arith))
      | inr f ↦
          let later = first_found p (suc from) k n (rw f at e) in (
            omega arith,
            omega arith,
            later.2,
            λ j a b.
                elim (cases_eq from j) [
                  | inl s ↦ subst (λ (x : ℕ). p x ≡ false) s f
                  | inr d ↦ later.3 j (omega arith) b
                ],
          )
    ]

pub first_none : (p : ℕ → Bool) (from k : ℕ) → first p from k ≡ None → (j : ℕ) → from ≤ j → j < from + k → p j ≡ false
unfolding first
first_none p from zero e j a b = absurd (omega arith)
first_none p from (suc k) e j a b =
    elim (cases_Bool (p from)) [
      | inl t ↦
          let same : Some from ≡ None = rw t at e in
          let z : ◌≡◌ {A = ℕ} 0 1 = cc in absurd (omega arith)
      | inr f ↦
          elim (cases_eq from j) [
            | inl s ↦ subst (λ (x : ℕ). p x ≡ false) s f
            | inr d ↦ first_none p (suc from) k (rw f at e) j (omega arith) (omega arith)
          ]
    ]

-- and that is all that `first` says: the lowest that passes is found, and None is found only where none passes
pub first_is : (p : ℕ → Bool) (from k n : ℕ) → from ≤ n → n < from + k → p n ≡ true
    → ((j : ℕ) → from ≤ j → j < n → p j ≡ false) → first p from k ≡ Some n
unfolding first
first_is p from zero n a b t h = absurd (omega arith)
first_is p from (suc k) n a b t h =
    elim (cases_eq from n) [
      | inl s ↦ let here : p from ≡ true = cc in rw here (ap Some s)
      | inr d ↦
          let here : p from ≡ false = h from (omega arith) (omega arith) in
          rw here (first_is p (suc from) k n (omega arith) (omega arith) t (λ j l. h j (omega arith)))
    ]

pub first_is_none : (p : ℕ → Bool) (from k : ℕ) → ((j : ℕ) → from ≤ j → j < from + k → p j ≡ false) → first p from k ≡ None
unfolding first
first_is_none p from zero h = refl
first_is_none p from (suc k) h =
    let here : p from ≡ false = h from (omega arith) (omega arith) in
    rw here (first_is_none p (suc from) k (λ j a b. h j (omega arith) (omega arith)))

pub first_same : (p q : ℕ → Bool) (from k : ℕ) → ((j : ℕ) → from ≤ j → j < from + k → p j ≡ q j) → first p from k ≡ first q from k
unfolding first
first_same p q from zero h = refl
first_same p q from (suc k) h =
    let here : p from ≡ q from = h from (omega arith) (omega arith) in
    let later : first p (suc from) k ≡ first q (suc from) k =
    first_same p q (suc from) k (λ j a b. h j (omega arith) (omega arith)) in
    cc
