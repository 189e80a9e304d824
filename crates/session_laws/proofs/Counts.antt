-- Comparing counts, and looking for a number that passes. Assumes nothing.
use Rattle.std.proofs.Common.{◌≡◌, ℕ, zero, suc, ◌+◌, ◌<◌, ◌≤◌, Bool, true, false, cond, not, ◌&&◌, eqb, ◌⊎◌, sym, refl, ap, ◌∙◌, inl, inr, arith}
use Rattle.std.proofs.lemmas.Bool.{cases_Bool, cond_both, and_parts, eqb-false, eq-eqb, ne_eqb, not-true, both_ways, cases_eq, cases_lt, false_from_ne_true, and_cases}
use Rattle.graph.specs.Counting.{count, any}
use Rattle.graph.proofs.Counting.{any_witness, any_from, count_none}

-- where not both pass, and the first does, the second fails
pub second_fails : (x y : Bool) → (x && y) ≡ false → x ≡ true → y ≡ false
second_fails x y e h = elim (and_cases x y e) [
  | inl no-x ↦ absurd (both_ways x no-x h)
  | inr no-y ↦ no-y
]

-- what passes below n
abbrev pub Found : (ℕ → Bool) → ℕ → Type 0
Found p n = (v : ℕ) × (v < n) × (p v ≡ true)

abbrev pub Nowhere : (ℕ → Bool) → ℕ → Type 0
Nowhere p n = (v : ℕ) → v < n → p v ≡ false

-- where nothing below n passes, nor n, nothing below the next passes
nowhere_more : (p : ℕ → Bool) (n : ℕ) → Nowhere p n → p n ≡ false → Nowhere p (suc n)
nowhere_more p n none e v h = elim (cases_eq v n) [
  | inl same ↦ rw same e
  | inr other ↦ none v (omega arith)
]

-- what passes below n passes below the next
found_more : (p : ℕ → Bool) (n : ℕ) → Found p n → Found p (suc n)
found_more p n f = (f.0, (let h = f.1 in omega arith), f.2)

pub any_found : (p : ℕ → Bool) (n : ℕ) → any p n ≡ true → Found p n
any_found p n e = let w = any_witness p n e in (w.0, w.1.0, w.1.1)

pub any_nowhere : (p : ℕ → Bool) (n : ℕ) → any p n ≡ false → Nowhere p n
any_nowhere p n e = λ v h. false_from_ne_true (p v) (λ t. both_ways (any p n) e (any_from p n v h t))

pub find : (p : ℕ → Bool) (n : ℕ) → Found p n ⊎ Nowhere p n
find p n = elim (cases_Bool (any p n)) [
  | inl some ↦ inl (any_found p n some)
  | inr none ↦ inr (any_nowhere p n none)
]

pub count_mono : (p q : ℕ → Bool) (n : ℕ) → ((v : ℕ) → v < n → p v ≡ true → q v ≡ true) → count p n ≤ count q n
count_mono p q zero f = omega arith
count_mono p q (suc n) f =
    let before : count p n ≤ count q n = count_mono p q n (λ v h. f v (omega arith)) in
    cond_both {A = ℕ} (p n) 1 0 (λ x. count p n + x ≤ count q n + cond (q n) 1 0)
    (λ e. let t : q n ≡ true = f n (omega arith) e in rw t (omega arith))
    (λ e. omega arith)

-- p, but for the number x
abbrev pub but : (ℕ → Bool) → ℕ → ℕ → Bool
but p x v = p v && not (eqb v x)

pub but_from : (p : ℕ → Bool) (x v : ℕ) → p v ≡ true → (v ≡ x → ⊥) → but p x v ≡ true
but_from p x v e ne = let d : eqb v x ≡ false = ne_eqb v x ne in rw (e, d)

pub but_parts : (p : ℕ → Bool) (x v : ℕ) → but p x v ≡ true → (p v ≡ true) × (v ≡ x → ⊥)
but_parts p x v e = let parts = and_parts _ _ e in (parts.0, eqb-false v x (not-true _ parts.1))

-- one number makes a difference of at most one
pub count_but : (p : ℕ → Bool) (x n : ℕ) → count p n ≤ count (but p x) n + 1
count_but p x zero = omega arith
count_but p x (suc n) =
    let before : count p n ≤ count (but p x) n + 1 = count_but p x n in
    elim (cases_eq n x) [
      | inl same ↦
          let below : count p n ≤ count (but p x) n = count_mono p (but p x) n (λ v h e. but_from p x v e (λ i. omega arith)) in
          cond_both {A = ℕ} (p n) 1 0 (λ y. count p n + y ≤ count (but p x) (suc n) + 1) (λ _. omega arith) (λ _. omega arith)
      | inr other ↦
          let d : eqb n x ≡ false = ne_eqb n x other in
          let here : count (but p x) (suc n) ≡ count (but p x) n + cond {A = ℕ} (p n) 1 0 = plain p n (eqb n x) d (count (but p x) n) in
          cond_both {A = ℕ} (p n) 1 0 (λ y. count p n + y ≤ count (but p x) (suc n) + 1)
          (λ e. let q : cond {A = ℕ} (p n) 1 0 ≡ 1 = rw e in omega arith) (λ _. omega arith)
    ]
  where
    plain : (p : ℕ → Bool) (n : ℕ) (t : Bool) → t ≡ false → (k : ℕ) → k + cond {A = ℕ} (p n && not t) 1 0 ≡ k + cond {A = ℕ} (p n) 1 0
    plain p n t e k = rw e (elim (p n) as (λ y. k + cond {A = ℕ} (y && true) 1 0 ≡ k + cond {A = ℕ} y 1 0) [ true ↦ refl | false ↦ refl ])

-- a number that passes makes a difference of one at least
pub count_less : (p : ℕ → Bool) (x n : ℕ) → x < n → p x ≡ true → count (but p x) n + 1 ≤ count p n
count_less p x zero h e = omega arith
count_less p x (suc n) h e = elim (cases_eq n x) [
  | inl same ↦
      let below : count (but p x) n ≤ count p n = count_mono (but p x) p n (λ v _ t. (but_parts p x v t).0) in
      let t : p n ≡ true = rw same e in
      let d : eqb n x ≡ true = eq-eqb n x same in
      rw (t, d) (omega arith)
  | inr other ↦
      let before : count (but p x) n + 1 ≤ count p n = count_less p x n (omega arith) e in
      cond_both {A = ℕ} (p n && not (eqb n x)) 1 0 (λ y. count (but p x) n + y + 1 ≤ count p n + cond {A = ℕ} (p n) 1 0)
      (λ t. let q : p n ≡ true = (and_parts _ _ t).0 in rw q (omega arith))
      (λ _. omega arith)
]

-- where each number below m that passes q is f of one below n that passes p, no more pass q than p
pub image : (f : ℕ → ℕ) (p : ℕ → Bool) (n m : ℕ) (q : ℕ → Bool) →
    ((r : ℕ) → r < m → q r ≡ true → (w : ℕ) × (w < n) × (p w ≡ true) × (f w ≡ r)) → count q m ≤ count p n
image f p zero m q g =
    let none : count q m ≡ 0 = count_none q m (λ r h.
    false_from_ne_true (q r) (λ e. let w = g r h e in let k : w.0 < 0 = w.1 in omega arith)) in
    omega arith
image f p (suc n) m q g = elim (cases_Bool (p n)) [
  | inl e ↦
      let less : count (but q (f n)) m ≤ count p n = image f p n m (but q (f n)) (λ r h t.
      let parts = but_parts q (f n) r t in
      let w = g r h parts.0 in
      let lower : w.0 < suc n = w.1 in
      let differs : w.0 ≡ n → ⊥ = λ i. parts.1 (sym w.3 ∙ ap f i) in
      (w.0, omega arith, w.2, w.3)) in
      let one : count q m ≤ count (but q (f n)) m + 1 = count_but q (f n) m in
      rw e (omega arith)
  | inr e ↦
      let less : count q m ≤ count p n = image f p n m q (λ r h t.
      let w = g r h t in
      let lower : w.0 < suc n = w.1 in
      let differs : w.0 ≡ n → ⊥ = λ i. both_ways (p n) e (ap p (sym i) ∙ w.2) in
      (w.0, omega arith, w.2, w.3)) in
      rw e (omega arith)
]

least_among : (p : ℕ → Bool) (f : ℕ → ℕ) (n u : ℕ) → ((w : ℕ) → w < n → p w ≡ true → f u ≤ f w) → (p n ≡ true → f u ≤ f n) →
    (w : ℕ) → w < suc n → p w ≡ true → f u ≤ f w
least_among p f n u below here w h e = elim (cases_eq w n) [
  | inl same ↦ rw same (here (rw same at e))
  | inr other ↦ below w (omega arith) e
]

-- of the numbers that pass, one at which f is least
pub least : (p : ℕ → Bool) (f : ℕ → ℕ) (n : ℕ) → Found p n →
    (u : ℕ) × (u < n) × (p u ≡ true) × ((w : ℕ) → w < n → p w ≡ true → f u ≤ f w)
least p f zero found = absurd (let k : found.0 < 0 = found.1 in omega arith)
least p f (suc n) found = elim (find p n) [
  | inl there ↦
      let u = least p f n there in
      let low : u.0 < n = u.1 in
      elim (cases_lt (f n) (f u.0)) [
        | inl lower ↦ elim (cases_Bool (p n)) [
          | inl e ↦ (n, omega arith, e, least_among p f n n (λ w h t. let k : f u.0 ≤ f w = u.3 w h t in omega arith) (λ _. omega arith))
          | inr e ↦ (u.0, omega arith, u.2, least_among p f n u.0 u.3 (λ t. absurd (both_ways (p n) e t)))
        ]
        | inr higher ↦ (u.0, omega arith, u.2, least_among p f n u.0 u.3 (λ _. higher))
      ]
  | inr none ↦ elim (cases_Bool (p n)) [
    | inl e ↦ (n, omega arith, e, least_among p f n n (λ w h t. absurd (both_ways (p w) (none w h) t)) (λ _. omega arith))
    | inr e ↦ absurd (elim (cases_eq found.0 n) [
      | inl same ↦ both_ways (p n) e (rw same at found.2)
      | inr other ↦ both_ways (p found.0) (none found.0 (let k : found.0 < suc n = found.1 in omega arith)) found.2
    ])
  ]
]
