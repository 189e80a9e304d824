-- Arrays of registers that change. Assumes nothing.
use Rattle.std.proofs.Common.{◌≡◌, ℕ, ◌+◌, ◌-◌, ◌<◌, ◌≤◌, Bool, true, false, cond, not, ◌&&◌, ◌||◌, eqb, ltb, List, length, get_or, drop, set, zero, suc, Some, None, Option, Bor, ◌⊎◌, [], refl, sym, ap, ◌∙◌, inl, inr, add-one, arith}
use mathlib.Core.Path.{fun_ext}
use Rattle.std.proofs.lemmas.Bool.{cases_lt, cases_eq, cases_Bool, eq-eqb, eqb-true, ne_eqb, and_parts, and_from, or_cases, or_left, or_right}
use Rattle.std.proofs.lemmas.Bool.Decides.{nat_tests}
use Rattle.std.proofs.lemmas.List.{get_or-drop, length-drop, get_or-set_same, get_or-set_other, get_or_past, drop_more, drop_all, take_all}
use Rattle.std.specs.List.{slice_range}
use Rattle.std.specs.Option.{MatchOption, IfSome, unwrap_or}
use Rattle.graph.specs.Counting.{any}
use Rattle.graph.specs.Shape.{Shape}
use Rattle.session_laws.specs.Base.{Base, SoundBase, fixed}
use Rattle.session_laws.proofs.Pairs.{fixed_low}
use Rattle.graph.specs.Counting.{first}
use Rattle.graph.proofs.Counting.{first_same, any_witness, any_from}
use Rattle.graph.proofs.Merging.{same_test}
use Rattle.session_laws.specs.Colouring.{none, painted, giving, lowest_free, own_number, or_none, taken}
use Rattle.colouring.specs.Painting.{read_at, Small}

-- one more register given
pub given_now : (groups : List (Option ℕ)) (v : ℕ) (r : Option ℕ) → v < length groups → read_at (set groups v r) ≡ giving (read_at groups) v (or_none r)
given_now groups v r l = fun_ext (λ w. elim (cases_eq w v) [
  | inl e ↦
      let is : eqb w v ≡ true = eq-eqb w v e in
      let now : get_or (set groups v r) v None ≡ r = get_or-set_same groups v r None l in
      rw is (rw e (ap or_none now))
  | inr ne ↦
      let is : eqb w v ≡ false = ne_eqb w v ne in
      rw is (ap or_none (get_or-set_other groups v w r None ne))
])

-- one step of painting
pub painted_step : (b : Base) (g : Shape) (c : ℕ → ℕ) (removed : List ℕ) (i : ℕ) (next : ℕ → ℕ) → i < length removed →
    next ≡ giving c (get_or removed i 0) (lowest_free b g c (get_or removed i 0)) →
    painted b g next (drop (i + 1) removed) ≡ painted b g c (drop i removed)
painted_step b g c removed i next l e =
    ap (λ (d : ℕ → ℕ). painted b g d (drop (i + 1) removed)) e ∙ sym (ap (painted b g c) (drop_more removed i 0 l))

pub painted_end : (b : Base) (g : Shape) (c : ℕ → ℕ) (removed : List ℕ) (i : ℕ) → length removed ≤ i → painted b g c (drop i removed) ≡ c
painted_end b g c removed i h = ap (painted b g c) (drop_all i removed h)

-- the registers used among the first w, where each w is asked after the other
one_used : (h j a q : Bool) → j ≡ true → h ≡ a → (h || q) ≡ ((j && q) || a)
one_used h j a q ej eh = grind (arith, nat_tests)

not_used : (h j a q : Bool) → j ≡ false → h ≡ a → h ≡ ((j && q) || a)
not_used h j a q ej eh = grind (arith, nat_tests)

small_same : (g r : ℕ) → r < 512 → (ltb g 512 && eqb r g) ≡ eqb g r
small_same g r l = grind (arith, nat_tests)

pub used_then : (p : ℕ → Bool) (registers : ℕ → ℕ) (w r : ℕ) (before : Bool) → r < 512 → p w ≡ true →
    before ≡ any (λ k. p k && eqb (registers k) r) w → (before || (ltb (registers w) 512 && eqb r (registers w))) ≡ any (λ k. p k && eqb (registers k) r) (w + 1)
used_then p registers w r before small pass so_far =
    rw (add-one w) (ap (λ x. before || x) (small_same (registers w) r small) ∙
    one_used before (p w) (any (λ k. p k && eqb (registers k) r) w) (eqb (registers w) r) pass so_far)

pub used_else : (p : ℕ → Bool) (registers : ℕ → ℕ) (w r : ℕ) (before : Bool) → p w ≡ false →
    before ≡ any (λ k. p k && eqb (registers k) r) w → before ≡ any (λ k. p k && eqb (registers k) r) (w + 1)
used_else p registers w r before fail so_far =
    rw (add-one w) (not_used before (p w) (any (λ k. p k && eqb (registers k) r) w) (eqb (registers w) r) fail so_far)

-- the registers of those that pass, where each is below n
abbrev pub Used : (ℕ → Bool) → (ℕ → ℕ) → ℕ → (ℕ → Bool) → Type 0
Used passes registers n used = (r : ℕ) → r < 255 → used r ≡ any (λ k. passes k && eqb (registers k) r) n

any_one : (p q q' : ℕ → Bool) (n w : ℕ) → w < n → ((k : ℕ) → q' k ≡ (q k || eqb k w)) → any (λ k. q' k && p k) n ≡ (any (λ k. q k && p k) n || p w)
any_one p q q' n w low more = same_test _ _
    (λ h.
    let k = any_witness (λ k. q' k && p k) n h in
    let parts = and_parts (q' k.0) (p k.0) k.1.1 in
    elim (or_cases (q k.0) (eqb k.0 w) (sym (more k.0) ∙ parts.0)) [
      | inl was ↦ or_left _ (p w) (any_from (λ k. q k && p k) n k.0 k.1.0 (and_from _ _ was parts.1))
      | inr is ↦ or_right _ (p w) (let e : k.0 ≡ w = eqb-true k.0 w is in rw e at parts.1)
    ])
    (λ h. elim (or_cases (any (λ k. q k && p k) n) (p w) h) [
      | inl was ↦
          let k = any_witness (λ k. q k && p k) n was in
          let parts = and_parts (q k.0) (p k.0) k.1.1 in
          any_from (λ k. q' k && p k) n k.0 k.1.0 (and_from _ _ (more k.0 ∙ or_left (q k.0) (eqb k.0 w) parts.0) parts.1)
      | inr is ↦ any_from (λ k. q' k && p k) n w low (and_from _ _ (more w ∙ or_right (q w) (eqb w w) (eq-eqb w w refl)) is)
    ])

pub used_none : (passes : ℕ → Bool) (registers : ℕ → ℕ) (n : ℕ) (used : ℕ → Bool) → ((k : ℕ) → passes k ≡ false) → ((r : ℕ) → used r ≡ false) → Used passes registers n used
used_none passes registers n used none empty r small = empty r ∙ sym (nothing n)
  where
    nothing : (n : ℕ) → any (λ k. passes k && eqb (registers k) r) n ≡ false
    nothing zero = refl
    nothing (suc n) = let before : any (λ k. passes k && eqb (registers k) r) n ≡ false = nothing n in rw (none n, before)

-- one more passes, with the register that it has, or with none
pub used_one : (passes then_passes : ℕ → Bool) (groups : List (Option ℕ)) (n w : ℕ) (used then_used : ℕ → Bool) → w < n →
    ((k : ℕ) → then_passes k ≡ (passes k || eqb k w)) → ((r : ℕ) → r < 255 → then_used r ≡ (used r || eqb (read_at groups w) r)) →
    Used passes (read_at groups) n used → Used then_passes (read_at groups) n then_used
used_one passes then_passes groups n w used then_used low more takes so_far r small =
    takes r small ∙ (ap (λ x. x || eqb (read_at groups w) r) (so_far r small) ∙ sym (any_one (λ k. eqb (read_at groups k) r) passes then_passes n w low more))

pub takes_none : (u : Bool) (g r : ℕ) → g ≡ 255 → r < 255 → u ≡ (u || eqb g r)
takes_none u g r none small = grind (arith, nat_tests)

pub takes_one : (u : Bool) (g r x : ℕ) → g ≡ x → r < 255 → (u || (ltb x 512 && eqb r x)) ≡ (u || eqb g r)
takes_one u g r x is small = grind (arith, nat_tests)

-- the lowest register that is not used
pub free_same : (b : Base) (g : Shape) (registers : ℕ → ℕ) (v : ℕ) (used : ℕ → Bool) → b.first + b.registers ≤ 32 →
    ((r : ℕ) → r < 255 → used r ≡ taken g registers v r) →
    or_none (first (λ r. not (used r)) b.first b.registers) ≡ lowest_free b g registers v
free_same b g registers v used small is =
    ap or_none (first_same (λ r. not (used r)) (λ r. not (taken g registers v r)) b.registers b.first (λ j lo hi. ap not (is j (omega arith))))

pub not_some : (o : Option ℕ) → ((x : ℕ) → o ≡ Some x → ⊥) → or_none o ≡ 255
not_some None h = refl
not_some (Some x) h = absurd (h x refl)

-- before anything is painted: fixed vertices have their own number, and the others none
pub own_numbers : (b : Base) → SoundBase b → (groups : List (Option ℕ)) → length groups ≡ 512 →
    ((w : ℕ) (d : Option ℕ) → w < 512 → get_or groups w d ≡ cond (fixed b w) (Some w) None) → (w : ℕ) → read_at groups w ≡ own_number b w
own_numbers b sound groups long each w = elim (cases_lt w 512) [
  | inl low ↦ ap or_none (each w None low) ∙ either (fixed b w)
  | inr high ↦
      let past : get_or groups w None ≡ None = get_or_past groups w None (omega arith) in
      let out : fixed b w ≡ false = elim (cases_Bool (fixed b w)) [
        | inl f ↦ absurd (let l : w < 32 = fixed_low b sound w f in omega arith)
        | inr f ↦ f
      ] in
      ap or_none past ∙ (rw out)
]
  where
    either : (f : Bool) → or_none (cond f (Some w) None) ≡ cond f w 255
    either f = elim f as (λ g. or_none (cond g (Some w) None) ≡ cond g w 255) [ true ↦ refl | false ↦ refl ]

-- where there is a register, it is below the number that stands for none
abbrev pub Known : List (Option ℕ) → Type 0
Known groups = (w : ℕ) → IfSome (get_or groups w None) (λ r. r < none)

pub own_known : (b : Base) → SoundBase b → (groups : List (Option ℕ)) → length groups ≡ 512 →
    ((w : ℕ) (d : Option ℕ) → w < 512 → get_or groups w d ≡ cond (fixed b w) (Some w) None) → Known groups
own_known b sound groups long each w = elim (cases_lt w 512) [
  | inl low ↦ let is : get_or groups w None ≡ cond (fixed b w) (Some w) None = each w None low in rw is (either (fixed b w) (fixed_low b sound w))
  | inr high ↦ let past : get_or groups w None ≡ None = get_or_past groups w None (omega arith) in rw past tt
]
  where
    either : (f : Bool) → (f ≡ true → w < 32) → IfSome (cond f (Some w) None) (λ r. r < none)
    either true low = let l : w < 32 = low refl in omega arith
    either false low = tt

pub given_known : (groups : List (Option ℕ)) (v : ℕ) (r : Option ℕ) → v < length groups → IfSome r (λ k. k < none) → Known groups → Known (set groups v r)
given_known groups v r l small known w = elim (cases_eq w v) [
  | inl e ↦
      let now : get_or (set groups v r) v None ≡ r = get_or-set_same groups v r None l in
      rw e (rw now small)
  | inr ne ↦
      let other : get_or (set groups v r) w None ≡ get_or groups w None = get_or-set_other groups v w r None ne in
      rw other (known w)
]

-- what stands from top on is small
pub last_small : (removed : List ℕ) (top : ℕ) (last : List ℕ) (i : ℕ) → Small removed top → last ≡ drop top removed → i < length last → get_or last i 0 < 512
last_small removed top last i small is inside =
    let long : length last ≡ length removed - top = ap length is ∙ length-drop top removed in
    let read : get_or last i 0 ≡ get_or removed (top + i) 0 = ap (λ (l : List ℕ). get_or l i 0) is ∙ get_or-drop top removed i 0 in
    let low : get_or removed (top + i) 0 < 512 = small (top + i) (omega arith) (omega arith) in
    omega arith

-- what is read from top on: nothing where top is past the end
pub last_is : (removed : List ℕ) (top : ℕ) (found : Option (Bor (List ℕ))) (empty : Bor (List ℕ)) → empty.now ≡ [] →
    MatchOption found ((length removed < top) ⊎ (length removed < length removed))
    (λ x. (top ≤ length removed) × (length removed ≤ length removed) × (x.now ≡ slice_range removed top (length removed)) × (length x.now + top ≡ length removed)) →
    (unwrap_or found empty).now ≡ drop top removed
last_is removed top None empty none m =
    let past : length removed ≤ top = elim m [ inl a ↦ omega arith | inr b ↦ omega arith ] in
    none ∙ sym (drop_all top removed past)
last_is removed top (Some x) empty none m =
    let all : length (drop top removed) ≤ length removed - top = rw (length-drop top removed) (omega arith) in
    m.2 ∙ take_all (length removed - top) (drop top removed) all
