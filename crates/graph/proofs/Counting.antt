-- Laws of counting, of whether any passes, and of the first that passes. Assumes nothing.
use Rattle.std.proofs.Common.{◌≡◌, ℕ, zero, suc, ◌+◌, ◌-◌, ◌<◌, ◌≤◌, Bool, true, false, cond, Decides, Some, None, Option, sym, refl, ap, ◌∙◌, inl, inr, add-zero, add_assoc, one-add, add-suc, suc-add, zero-add, add-one, arith, length}
use Rattle.std.proofs.lemmas.Bool.{cases_Bool, cases_eq, cases_lt, cond_both}
use Rattle.std.proofs.lemmas.Bool.Decides.{Decides-below_or}
use Rattle.std.specs.List.{filter, range_with_len}
use Rattle.std.specs.Option.{MatchOption, IfSome}
use Rattle.graph.specs.Counting.{count, any, first}

-- one more number, as code counts
pub count_more : (p : ℕ → Bool) (n : ℕ) → count p (n + 1) ≡ count p n + cond {A = ℕ} (p n) 1 0
count_more p n = rw (add-one n)

pub count_le : (p : ℕ → Bool) (n : ℕ) → count p n ≤ n
count_le p zero = omega arith
count_le p (suc n) =
    let before : count p n ≤ n = count_le p n in
    cond_both {A = ℕ} (p n) 1 0 (λ x. count p n + x ≤ suc n) (λ _. omega arith) (λ _. omega arith)

-- what is found at once
pub first_here : (p : ℕ → Bool) (from n : ℕ) → from < n → p from ≡ true → first p from (n - from) ≡ Some from
first_here p from n h e =
    let k : ℕ = n - suc from in
    let split : n - from ≡ suc k = omega arith in
    rw split (rw e)

-- what is looked for further on
pub first_later : (p : ℕ → Bool) (from n : ℕ) → from < n → p from ≡ false →
    first p from (n - from) ≡ first p (from + 1) (n - (from + 1))
first_later p from n h e =
    let k : ℕ = n - suc from in
    let split : n - from ≡ suc k = omega arith in
    let next : n - (from + 1) ≡ k = omega arith in
    rw (split, next) (rw (e, add-one from))

pub first_none : (p : ℕ → Bool) (from n : ℕ) → n ≤ from → first p from (n - from) ≡ None
first_none p from n h = let none : n - from ≡ zero = omega arith in rw none

-- `any` is true exactly when some number below n passes
any_decides : (p : ℕ → Bool) (n : ℕ) → Decides (any p n) ((k : ℕ) × (k < n) × (p k ≡ true))
any_decides p n = Decides-below_or p (λ k. p k ≡ true) (any p) (λ k. (λ e. e, λ e. e)) refl (λ _. refl) n

pub any_witness : (p : ℕ → Bool) (n : ℕ) → any p n ≡ true → (k : ℕ) × ((k < n) × (p k ≡ true))
any_witness p n h = let w = (any_decides p n).0 h in (w.0, (w.1, w.2))

pub any_from : (p : ℕ → Bool) (n k : ℕ) → k < n → p k ≡ true → any p n ≡ true
any_from p n k h e = (any_decides p n).1 (k, h, e)

-- only the numbers below n matter
pub count_same : (p q : ℕ → Bool) (n : ℕ) → ((k : ℕ) → k < n → p k ≡ q k) → count p n ≡ count q n
count_same p q zero h = refl
count_same p q (suc n) h =
    let before : count p n ≡ count q n = count_same p q n (λ k l. h k (omega arith)) in
    rw (before, h n (omega arith))

pub count_split : (p : ℕ → Bool) (a b : ℕ) → count p (a + b) ≡ count p a + count (λ k. p (a + k)) b
count_split p a zero = rw (add-zero a) (omega arith)
count_split p a (suc b) =
    let before : count p (a + b) ≡ count p a + count (λ k. p (a + k)) b = count_split p a b in
    rw (add-suc a b) (rw before (omega arith))

pub count_none : (p : ℕ → Bool) (n : ℕ) → ((k : ℕ) → k < n → p k ≡ false) → count p n ≡ 0
count_none p zero h = refl
count_none p (suc n) h =
    let before : count p n ≡ 0 = count_none p n (λ k l. h k (omega arith)) in
    rw (before, h n (omega arith))

-- numbers that fail are passed over
pub first_skip : (p : ℕ → Bool) (d from n : ℕ) → ((k : ℕ) → from ≤ k → k < from + d → p k ≡ false) →
    first p from (n - from) ≡ first p (from + d) (n - (from + d))
first_skip p zero from n h = rw (add-zero from)
first_skip p (suc d) from n h = elim (cases_lt from n) [
  | inl inside ↦
      let here = first_later p from n inside (h from (omega arith) (omega arith)) in
      let there = first_skip p d (from + 1) n (λ k a b. h k (omega arith) (omega arith)) in
      let sum : (from + 1) + d ≡ from + suc d = omega arith in
      here ∙ (there ∙ ap (λ (x : ℕ). first p x (n - x)) sum)
  | inr past ↦ first_none p from n past ∙ sym (first_none p (from + suc d) n (omega arith))
]

-- the same answers on the numbers that are looked at
pub first_same : (p q : ℕ → Bool) (k from : ℕ) → ((j : ℕ) → from ≤ j → j < from + k → p j ≡ q j) → first p from k ≡ first q from k
first_same p q zero from h = refl
first_same p q (suc k) from h =
    let later : first p (suc from) k ≡ first q (suc from) k = first_same p q k (suc from) (λ j a b. h j (omega arith) (omega arith)) in
    rw (h from (omega arith) (omega arith), later)

abbrev pub or_else : Option ℕ → Option ℕ → Option ℕ
or_else None o = o
or_else (Some x) o = Some x

pub first_split : (p : ℕ → Bool) (a b from : ℕ) → first p from (a + b) ≡ or_else (first p from a) (first p (from + a) b)
first_split p zero b from = rw (zero-add b, add-zero from)
first_split p (suc a) b from = elim (cases_Bool (p from)) [
  | inl e ↦ rw (suc-add a b, e)
  | inr e ↦
      let sum : suc from + a ≡ from + suc a = omega arith in
      let rest : first p (suc from) (a + b) ≡ or_else (first p (suc from) a) (first p (from + suc a) b) =
      first_split p a b (suc from) ∙ ap (λ (x : ℕ). or_else (first p (suc from) a) (first p x b)) sum in
      rw (suc-add a b, e) rest
]

abbrev pub moved : ℕ → Option ℕ → Option ℕ
moved d None = None
moved d (Some x) = Some (d + x)

-- the same test a distance away
pub first_moved : (p q : ℕ → Bool) (d k from : ℕ) → ((j : ℕ) → from ≤ j → j < from + k → p (d + j) ≡ q j) →
    first p (d + from) k ≡ moved d (first q from k)
first_moved p q d zero from h = refl
first_moved p q d (suc k) from h =
    let here : p (d + from) ≡ q from = h from (omega arith) (omega arith) in
    let later : first p (d + suc from) k ≡ moved d (first q (suc from) k) =
    first_moved p q d k (suc from) (λ j a b. h j (omega arith) (omega arith)) in
    elim (cases_Bool (q from)) [
      | inl e ↦ rw (here, e)
      | inr e ↦ rw (here, e) (ap (λ (x : ℕ). first p x k) (sym (add-suc d from)) ∙ later)
    ]

-- what the first that passes is
pub first_found : (p : ℕ → Bool) (k from x : ℕ) → first p from k ≡ Some x →
    (from ≤ x) × (x < from + k) × (p x ≡ true) × ((j : ℕ) → from ≤ j → j < x → p j ≡ false)
first_found p zero from x e = let z : ◌≡◌ {A = ℕ} 0 1 = cc in absurd (omega arith)
first_found p (suc k) from x e = elim (cases_Bool (p from)) [
  | inl here ↦
      let is : Some from ≡ Some x = sym (rw here) ∙ e in
      let same : from ≡ x = cc in
      (omega arith, omega arith, rw (sym same) here, λ j a b. absurd (omega arith))
  | inr not-here ↦
      let later : first p (suc from) k ≡ Some x = sym (rw not-here) ∙ e in
      let w = first_found p k (suc from) x later in
      let least : suc from ≤ x = w.0 in
      let below : x < suc from + k = w.1 in (
        omega arith,
        omega arith,
        w.2,
        λ j a b. elim (cases_eq j from) [
          | inl same ↦ rw same not-here
          | inr other ↦ w.3 j (omega arith) b
        ],
      )
]

pub first_missed : (p : ℕ → Bool) (k from : ℕ) → first p from k ≡ None → (j : ℕ) → from ≤ j → j < from + k → p j ≡ false
first_missed p zero from e j a b = absurd (omega arith)
first_missed p (suc k) from e j a b = elim (cases_Bool (p from)) [
  | inl here ↦
      let is : Some from ≡ None = sym (rw here) ∙ e in
      let z : ◌≡◌ {A = ℕ} 0 1 = cc in absurd (omega arith)
  | inr not-here ↦ elim (cases_eq j from) [
    | inl same ↦ rw same not-here
    | inr other ↦ first_missed p k (suc from) (sym (rw not-here) ∙ e) j (omega arith) (omega arith)
  ]
]

pub count_whole : (p : ℕ → Bool) (n : ℕ) → ((k : ℕ) → k < n → p k ≡ true) → count p n ≡ n
count_whole p zero h = refl
count_whole p (suc n) h =
    let before : count p n ≡ n = count_whole p n (λ k l. h k (omega arith)) in
    rw (before, h n (omega arith)) (add-one n)

-- what a chain over a range counts, and what it finds
pub count_from : (p : ℕ → Bool) (a n : ℕ) → length (filter p (range_with_len a n)) ≡ count (λ k. p (a + k)) n
count_from p a zero = refl
count_from p a (suc n) =
    let rest : length (filter p (range_with_len (a + 1) n)) ≡ count (λ k. p (a + 1 + k)) n = count_from p (a + 1) n in
    let split : count (λ k. p (a + k)) (1 + n) ≡ count (λ k. p (a + k)) 1 + count (λ k. p (a + (1 + k))) n = count_split (λ k. p (a + k)) 1 n in
    let same : count (λ k. p (a + 1 + k)) n ≡ count (λ k. p (a + (1 + k))) n =
    count_same (λ k. p (a + 1 + k)) (λ k. p (a + (1 + k))) n (λ k _. ap p (add_assoc a 1 k)) in
    let name : count (λ k. p (a + k)) (1 + n) ≡ count (λ k. p (a + k)) (suc n) = ap (count (λ k. p (a + k))) (one-add n) in
    let one : p (a + 0) ≡ p a = ap p (add-zero a) in
    elim (cases_Bool (p a)) [
      | inl e ↦ rw e (let low : count (λ k. p (a + k)) 1 ≡ 1 = rw (one, e) in omega arith)
      | inr e ↦ rw e (let low : count (λ k. p (a + k)) 1 ≡ 0 = rw (one, e) in omega arith)
    ]

pub count_range : (p : ℕ → Bool) (n : ℕ) → length (filter p (range_with_len 0 n)) ≡ count p n
count_range p n = count_from p 0 n ∙ count_same (λ k. p (0 + k)) p n (λ k _. ap p (zero-add k))

-- the lowest that passes, said of the numbers that were looked at
pub first_is : (p : ℕ → Bool) (from n : ℕ) (o : Option ℕ) → MatchOption o ((k : ℕ) → from ≤ k → k < n → p k ≡ false)
    (λ i. (from ≤ i) × (i < n) × (p i ≡ true) × ((k : ℕ) → from ≤ k → k < i → p k ≡ false)) → o ≡ first p from (n - from)
first_is p from n None h = elim (cases_lt from n) [
  | inl some ↦
      let end : from + (n - from) ≡ n = omega arith in
      let passed = first_skip p (n - from) from n (λ k a b. h k a (omega arith)) in
      sym (passed ∙ first_none p (from + (n - from)) n (omega arith))
  | inr none ↦ sym (first_none p from n none)
]
first_is p from n (Some i) h =
    let below : from ≤ i = h.0 in
    let here : from + (i - from) ≡ i = omega arith in
    let passed = first_skip p (i - from) from n (λ k a b. h.3 k a (omega arith)) in
    sym (passed ∙ (ap (λ (x : ℕ). first p x (n - x)) here ∙ first_here p i n h.1 h.2))

pub first_inside : (p : ℕ → Bool) (n : ℕ) (o : Option ℕ) → o ≡ first p 0 n → IfSome o (λ i. i < n)
first_inside p n None e = tt
first_inside p n (Some i) e = let f = first_found p n 0 i (sym e) in let below : i < 0 + n = f.1 in omega arith
