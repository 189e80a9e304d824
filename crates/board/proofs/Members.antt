-- What an iterator over a set's members gives, as a list, and what the chains over it come to. Assumes nothing.
use Rattle.std.proofs.Common.{◌≡◌, ℕ, zero, suc, ◌+◌, ◌-◌, ◌<◌, ◌≤◌, Bool, true, false, cond, ◌&&◌, ◌||◌, List, [], ◌∷◌, length, filter, Some, None, Option, sym, refl, ap, ◌∙◌, subst, add-zero, add-one, zero-add, inl, inr, arith, true≢false}
use Rattle.std.proofs.lemmas.Bool.{cases_Bool, cases_order, and_left, and_from, and_parts, or_cases, or_left, or_right}
use Rattle.std.proofs.lemmas.Iterator.{YieldsList}
use Rattle.std.specs.Iterator.{AlwaysYields}
use Rattle.std.specs.List.{list_any, find, range_with_len}
use Rattle.graph.specs.Counting.{count, any, first}
use Rattle.graph.proofs.Counting.{any_from, any_witness, first_split, or_else}
use Rattle.graph.proofs.Merging.{same_test}
use Rattle.board.proofs.Bridging.{count_more}
use Rattle.numbers.proofs.Counting.{first_none}
use Rattle.numbers.specs.Iterating.{source, place, Gives}
use Rattle.numbers.specs.Sets.{has}
use Rattle.numbers.specs.declared.members.Members.{Members}
use Rattle.numbers.specs.declared.number_set.NumberSet.{NumberSet}
use Rattle.numbers.proofs.Counting.{first_found}

-- the members among the k numbers from `from` on
abbrev pub members_from : (ℕ → Bool) → ℕ → ℕ → List ℕ
members_from p from zero = []
members_from p from (suc k) = let rest = members_from p (suc from) k in cond (p from) (from ∷ rest) rest

-- a call gives the least that is still to come
gives_here : (m j : Members) (from x : ℕ) → has (source m) from ≡ true → place m ≤ from → from < 512 →
    ((i : ℕ) → place m ≤ i → i < from → has (source m) i ≡ false) → Gives m (Some x) j → x ≡ from
gives_here m j from x here low inside none g = elim (cases_order x from) [
  | inl e ↦ e
  | inr (inl less) ↦ absurd (true≢false (sym g.2.3 ∙ none x g.2.1 less))
  | inr (inr more) ↦
      absurd (true≢false (sym here ∙ (first_found (has (source m)) (place m) (512 - place m) x (sym g.1)).3 from low more))
]

gives_none : (m j : Members) (from : ℕ) → has (source m) from ≡ true → place m ≤ from → from < 512 → Gives m None j → ⊥
gives_none m j from here low inside g =
    true≢false (sym here ∙ first_none (has (source m)) (place m) (512 - place m) (sym g.1) from low (omega arith))

yields : (k from : ℕ) (m : Members) → from + k ≡ 512 → place m ≤ from → ((i : ℕ) → place m ≤ i → i < from → has (source m) i ≡ false) →
    AlwaysYields Gives (λ x. x) m (members_from (has (source m)) from k)
yields zero from m e low none = λ x j g.
    let inside : x < 512 = g.2.2 in
    true≢false (sym g.2.3 ∙ none x g.2.1 (omega arith))
yields (suc k) from m e low none = elim (cases_Bool (has (source m) from)) [
  | inl here ↦ rw here (
    λ j g. gives_none m j from here low (omega arith) g,
    λ x j g.
        let is : x ≡ from = gives_here m j from x here low (omega arith) none g in
        let next : place j ≡ x + 1 = g.2.0 in (
          is,
          subst (λ (s : NumberSet). AlwaysYields Gives (λ x. x) j (members_from (has s) (suc from) k)) g.0
              (yields k (suc from) j (omega arith) (omega arith) (λ i a b. absurd (omega arith))),
        ),
  )
  | inr gone ↦ rw gone (yields k (suc from) m (omega arith) (omega arith) (λ i a b. elim (cases_order i from) [
    | inl same ↦ rw same gone
    | inr (inl less) ↦ none i a less
    | inr (inr more) ↦ absurd (omega arith)
  ]))
]

-- all members, from an iterator that has given none
pub members_of : (m : Members) (s : NumberSet) → source m ≡ s → place m ≡ 0 → YieldsList Gives (λ x. x) m (members_from (has s) 0 512)
members_of m s same start = record {
  runs = subst (λ (s : NumberSet). AlwaysYields Gives (λ x. x) m (members_from (has s) 0 512)) same
      (yields 512 0 m refl (omega arith) (λ i a b. absurd (omega arith)));
}

some_member : (p q : ℕ → Bool) (k from : ℕ) → list_any p (members_from q from k) ≡ true → (v : ℕ) × (v < from + k) × ((q v && p v) ≡ true)
some_member p q zero from h = absurd (true≢false (sym h))
some_member p q (suc k) from h = elim (cases_Bool (q from)) [
  | inl in-it ↦
      let here : (p from || list_any p (members_from q (suc from) k)) ≡ true = rw in-it at h in
      elim (or_cases (p from) _ here) [
        | inl e ↦ (from, omega arith, and_from _ _ in-it e)
        | inr e ↦ let w = some_member p q k (suc from) e in (w.0, let l : w.0 < suc from + k = w.1 in omega arith, w.2)
      ]
  | inr out ↦
      let there : list_any p (members_from q (suc from) k) ≡ true = rw out at h in
      let w = some_member p q k (suc from) there in (w.0, let l : w.0 < suc from + k = w.1 in omega arith, w.2)
]

member_some : (p q : ℕ → Bool) (k from v : ℕ) → from ≤ v → v < from + k → (q v && p v) ≡ true → list_any p (members_from q from k) ≡ true
member_some p q zero from v a b h = absurd (omega arith)
member_some p q (suc k) from v a b h = elim (cases_order v from) [
  | inl e ↦
      let both = and_parts (q from) (p from) (rw e at h) in
      let in-it : q from ≡ true = both.0 in
      rw in-it (or_left (p from) _ both.1)
  | inr (inl less) ↦ absurd (omega arith)
  | inr (inr more) ↦
      let there : list_any p (members_from q (suc from) k) ≡ true = member_some p q k (suc from) v (omega arith) (omega arith) h in
      elim (cases_Bool (q from)) [
        | inl in-it ↦ rw in-it (or_right (p from) _ there)
        | inr out ↦ rw out there
      ]
]

-- whether any member passes, where members are below n
pub any_member : (p q : ℕ → Bool) (n : ℕ) → ((v : ℕ) → q v ≡ true → v < n) → n ≤ 512 → list_any p (members_from q 0 512) ≡ any (λ v. q v && p v) n
any_member p q n inside most = same_test _ _
    (λ h. let w = some_member p q 512 0 h in any_from (λ v. q v && p v) n w.0 (inside w.0 (and_parts _ _ w.2).0) w.2)
    (λ h.
    let w = any_witness (λ v. q v && p v) n h in
    let low : w.0 < n = w.1.0 in
    member_some p q 512 0 w.0 (omega arith) (omega arith) w.1.1)

-- how many members pass
count_from : (p q : ℕ → Bool) (k from : ℕ) → count (λ v. q v && p v) from + length (filter p (members_from q from k)) ≡ count (λ v. q v && p v) (from + k)
count_from p q zero from = rw (add-zero from) (omega arith)
count_from p q (suc k) from =
    let later : count (λ v. q v && p v) (suc from) + length (filter p (members_from q (suc from) k)) ≡ count (λ v. q v && p v) (suc from + k) =
    count_from p q k (suc from) in
    let sum : from + suc k ≡ suc from + k = omega arith in
    rw sum (elim (cases_Bool (q from)) [
      | inl here ↦ elim (cases_Bool (p from)) [
        | inl pass ↦ rw (here, pass) (let l = rw (here, pass) at later in omega arith)
        | inr fail ↦ rw (here, fail) (let l = rw (here, fail) at later in omega arith)
      ]
      | inr out ↦ rw out (let l = rw out at later in omega arith)
    ])

-- the first member that passes
pub find_from : (p q : ℕ → Bool) (k from : ℕ) → find p (members_from q from k) ≡ first (λ v. q v && p v) from k
find_from p q zero from = refl
find_from p q (suc k) from =
    let later : find p (members_from q (suc from) k) ≡ first (λ v. q v && p v) (suc from) k = find_from p q k (suc from) in
    elim (cases_Bool (q from)) [
      | inl here ↦ rw (here, later)
      | inr out ↦ rw (out, later)
    ]

-- how many members pass, where members are below n
pub count_member : (p q : ℕ → Bool) (k n : ℕ) → ((v : ℕ) → q v ≡ true → v < n) → n ≤ k →
    length (filter p (members_from q 0 k)) ≡ count (λ v. q v && p v) n
count_member p q k n inside most =
    let all : length (filter p (members_from q 0 k)) ≡ count (λ v. q v && p v) (0 + k) = sym (zero-add _) ∙ count_from p q k 0 in
    all ∙ (ap (count (λ v. q v && p v)) (zero-add k) ∙ count_more (λ v. q v && p v) n k most (λ v h. and_left _ _ (out_of q n inside v h)))
  where
    out_of : (q : ℕ → Bool) (n : ℕ) → ((v : ℕ) → q v ≡ true → v < n) → (v : ℕ) → n ≤ v → q v ≡ false
    out_of q n inside v h = elim (cases_Bool (q v)) [
      | inl t ↦ absurd (let l : v < n = inside v t in omega arith)
      | inr f ↦ f
    ]

no_first : (p : ℕ → Bool) (k from : ℕ) → ((v : ℕ) → from ≤ v → p v ≡ false) → first p from k ≡ None
no_first p zero from none = refl
no_first p (suc k) from none =
    let later : first p (suc from) k ≡ None = no_first p k (suc from) (λ v h. none v (omega arith)) in
    rw (none from (omega arith), later)

or_nothing : (o : Option ℕ) → or_else o None ≡ o
or_nothing None = refl
or_nothing (Some x) = refl

-- the first member that passes, where members are below n
pub find_member : (p q : ℕ → Bool) (k n : ℕ) → ((v : ℕ) → q v ≡ true → v < n) → n ≤ k →
    find p (members_from q 0 k) ≡ first (λ v. q v && p v) 0 n
find_member p q k n inside most =
    let both : ℕ → Bool = λ v. q v && p v in
    let whole : n + (k - n) ≡ k = omega arith in
    let none : first both (0 + n) (k - n) ≡ None = no_first both (k - n) (0 + n) (λ v h. elim (cases_Bool (q v)) [
      | inl t ↦ absurd (let l : v < n = inside v t in omega arith)
      | inr f ↦ and_left _ _ f
    ]) in
    find_from p q k 0 ∙ (sym (ap (first both 0) whole) ∙ (first_split both n (k - n) 0 ∙ (ap (or_else (first both 0 n)) none ∙ or_nothing (first both 0 n))))

-- a search in a range
pub find_range : (p : ℕ → Bool) (k from : ℕ) → find p (range_with_len from k) ≡ first p from k
find_range p zero from = refl
find_range p (suc k) from =
    let later : find p (range_with_len (from + 1) k) ≡ first p (suc from) k = ap (λ (x : ℕ). find p (range_with_len x k)) (add-one from) ∙ find_range p k (suc from) in
    rw later
