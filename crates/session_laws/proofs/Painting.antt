-- Giving one vertex after the other the lowest register that is free for it. Assumes nothing.
use Rattle.std.proofs.Common.{◌≡◌, ℕ, suc, ◌+◌, ◌-◌, ◌<◌, ◌≤◌, Bool, true, false, cond, not, ◌&&◌, eqb, leb, ◌⊎◌, List, [], ◌∷◌, Some, None, Option, sym, refl, ◌∙◌, inl, inr, arith}
use Rattle.std.proofs.lemmas.Bool.{cases_Bool, cases_eq, and_parts, and_from, or_cases, or_parts, or_right, eqb-true, eq-eqb, ne_eqb, le-leb, lt-ltb, leb-true, both_ways, not-true, not-false, not_from_false, false_from_ne_true}
use Rattle.graph.specs.Counting.{count, first}
use Rattle.graph.proofs.Counting.{any_from, count_whole, first_found, first_missed}
use Rattle.graph.specs.Shape.{Shape, Lawful}
use Rattle.session_laws.specs.Bank.{among}
use Rattle.session_laws.specs.Base.{Base, SoundBase}
use Rattle.session_laws.specs.State.{listed}
use Rattle.session_laws.specs.Invariants.{Distinct, LightList, SpareList}
use Rattle.session_laws.specs.Colouring.{none, or_none, taken, lowest_free, giving, painted}
use Rattle.session_laws.proofs.Counts.{Nowhere, any_found, image}
use Rattle.session_laws.proofs.Cores.{two_ends, far_inside}

-- the first of k numbers that passes, or none of them does
abbrev pub First : (ℕ → Bool) → ℕ → ℕ → Option ℕ → Type 0
First p from k None = (i : ℕ) → from ≤ i → i < from + k → p i ≡ false
First p from k (Some r) = (from ≤ r) × (r < from + k) × (p r ≡ true)

-- where the first number fails, the first that passes is that of the later ones
later : (p : ℕ → Bool) (from k : ℕ) (o : Option ℕ) → First p (suc from) k o → p from ≡ false → First p from (suc k) o
later p from k None h e = λ i lo hi. elim (cases_eq i from) [
  | inl same ↦ rw same e
  | inr other ↦ h i (omega arith) (omega arith)
]
later p from k (Some r) h e = let lo : suc from ≤ r = h.0 in let hi : r < suc from + k = h.1 in (omega arith, omega arith, h.2)

pub first_is : (p : ℕ → Bool) (from k : ℕ) → First p from k (first p from k)
first_is p from k = go (first p from k) refl
  where
    go : (o : Option ℕ) → first p from k ≡ o → First p from k o
    go None e = first_missed p k from e
    go (Some r) e = let f = first_found p k from r e in (f.0, f.1, f.2)

pub giving_here : (c : ℕ → ℕ) (v r w : ℕ) → w ≡ v → giving c v r w ≡ r
giving_here c v r w e = let d : eqb w v ≡ true = eq-eqb w v e in rw d

pub giving_there : (c : ℕ → ℕ) (v r w : ℕ) → (w ≡ v → ⊥) → giving c v r w ≡ c w
giving_there c v r w e = let d : eqb w v ≡ false = ne_eqb w v e in rw d

-- vertices that are joined have different registers, where both have one
abbrev pub Differ : Shape → (ℕ → ℕ) → Type 0
Differ g c = (u v : ℕ) → g.joined u v ≡ true → c u ≡ c v → c u ≡ none

free_differs : (b : Base) (g : Shape) → Lawful g → (c : ℕ → ℕ) (v w : ℕ) → g.joined v w ≡ true →
    lowest_free b g c v ≡ c w → lowest_free b g c v ≡ none
free_differs b g l c v w j =
    go (first (λ r. not (taken g c v r)) b.first b.registers) (first_is (λ r. not (taken g c v r)) b.first b.registers)
  where
    go : (o : Option ℕ) → First (λ r. not (taken g c v r)) b.first b.registers o → or_none o ≡ c w → or_none o ≡ none
    go None h e = refl
    go (Some r) h e = absurd (both_ways _ (not-true _ h.2)
        (any_from (λ z. g.joined v z && eqb (c z) r) g.size w (far_inside g l v w j) (and_from _ _ j (eq-eqb _ _ (sym e)))))

giving_differs : (b : Base) (g : Shape) → Lawful g → (c : ℕ → ℕ) (v : ℕ) → Differ g c → Differ g (giving c v (lowest_free b g c v))
giving_differs b g l c v d u w j e = elim (cases_eq u v) [
  | inl u=v ↦ elim (cases_eq w v) [
    | inl w=v ↦ absurd (two_ends g l u w j (u=v ∙ sym w=v))
    | inr w≠v ↦
        let a : giving c v (lowest_free b g c v) u ≡ lowest_free b g c v = giving_here c v _ u u=v in
        a ∙ free_differs b g l c v w (rw u=v at j) (sym a ∙ (e ∙ giving_there c v _ w w≠v))
  ]
  | inr u≠v ↦
      let a : giving c v (lowest_free b g c v) u ≡ c u = giving_there c v _ u u≠v in
      elim (cases_eq w v) [
        | inl w=v ↦
            let i : lowest_free b g c v ≡ c u = sym (giving_here c v _ w w=v) ∙ (sym e ∙ a) in
            a ∙ (sym i ∙ free_differs b g l c v u (rw w=v at (l.symmetric w u ∙ j)) i)
        | inr w≠v ↦ a ∙ d u w j (sym a ∙ (e ∙ giving_there c v _ w w≠v))
      ]
]

pub painted_differs : (b : Base) (g : Shape) → Lawful g → (c : ℕ → ℕ) (vs : List ℕ) → Differ g c → Differ g (painted b g c vs)
painted_differs b g l c [] d = d
painted_differs b g l c (v ∷ vs) d = painted_differs b g l (giving c v (lowest_free b g c v)) vs (giving_differs b g l c v d)

-- what is not in the list keeps its register
pub painted_kept : (b : Base) (g : Shape) (c : ℕ → ℕ) (vs : List ℕ) (w : ℕ) → listed vs w ≡ false → painted b g c vs w ≡ c w
painted_kept b g c [] w h = refl
painted_kept b g c (v ∷ vs) w h =
    let p = or_parts (eqb v w) (listed vs w) h in
    painted_kept b g (giving c v (lowest_free b g c v)) vs w p.1 ∙
    giving_there c v (lowest_free b g c v) w (λ e. both_ways _ p.0 (eq-eqb v w (sym e)))

-- a register of the bank, or none
abbrev pub Registers : Base → (ℕ → ℕ) → Type 0
Registers b c = (v : ℕ) → (c v ≡ none) ⊎ (among b.first b.registers (c v) ≡ true)

pub lowest_is : (b : Base) (g : Shape) (c : ℕ → ℕ) (v : ℕ) →
    (lowest_free b g c v ≡ none) ⊎ (among b.first b.registers (lowest_free b g c v) ≡ true)
lowest_is b g c v = go (first (λ r. not (taken g c v r)) b.first b.registers) (first_is (λ r. not (taken g c v r)) b.first b.registers)
  where
    go : (o : Option ℕ) → First (λ r. not (taken g c v r)) b.first b.registers o →
        (or_none o ≡ none) ⊎ (among b.first b.registers (or_none o) ≡ true)
    go None h = inl refl
    go (Some r) h = inr (and_from _ _ (le-leb _ _ h.0) (lt-ltb _ _ h.1))

pub painted_registers : (b : Base) (g : Shape) (c : ℕ → ℕ) (vs : List ℕ) → Registers b c → Registers b (painted b g c vs)
painted_registers b g c [] h = h
painted_registers b g c (v ∷ vs) h = painted_registers b g (giving c v (lowest_free b g c v)) vs (λ w. elim (cases_eq w v) [
  | inl e ↦ rw (giving_here c v (lowest_free b g c v) w e) (lowest_is b g c v)
  | inr e ↦ rw (giving_there c v (lowest_free b g c v) w e) (h w)
])

-- among fewer than K neighbours with a register, one register is free
pub free_one : (b : Base) → SoundBase b → (g : Shape) (c : ℕ → ℕ) (v : ℕ) (vs : List ℕ) → ((w : ℕ) → listed vs w ≡ true → c w ≡ none) →
    count (λ w. g.joined v w && not (listed vs w)) g.size < b.registers → among b.first b.registers (lowest_free b g c v) ≡ true
free_one b sb g c v vs later few =
    go (first (λ r. not (taken g c v r)) b.first b.registers) (first_is (λ r. not (taken g c v r)) b.first b.registers)
  where
    found : Nowhere (λ r. cond (leb b.first r) (not (taken g c v r)) false) (b.first + b.registers) → (r : ℕ) → r < b.registers →
        (w : ℕ) × (w < g.size) × ((g.joined v w && not (listed vs w)) ≡ true) × (c w - b.first ≡ r)
    found none_free r lo =
        let low : leb b.first (b.first + r) ≡ true = le-leb _ _ (omega arith) in
        let t : taken g c v (b.first + r) ≡ true = not-false _ (rw low at (none_free (b.first + r) (omega arith))) in
        let w = any_found (λ z. g.joined v z && eqb (c z) (b.first + r)) g.size t in
        let p = and_parts (g.joined v w.0) (eqb (c w.0) (b.first + r)) w.2 in
        let is : c w.0 ≡ b.first + r = eqb-true _ _ p.1 in
        let bank : b.first + b.registers ≤ 32 = sb.low in
        let open-yet : listed vs w.0 ≡ false =
        false_from_ne_true (listed vs w.0) (λ e. let n : c w.0 ≡ 255 = later w.0 e in omega arith) in
        (w.0, w.1, and_from _ _ p.0 (not_from_false _ open-yet), omega arith)

    go : (o : Option ℕ) → First (λ r. not (taken g c v r)) b.first b.registers o → among b.first b.registers (or_none o) ≡ true
    go None h = absurd (
        let all : count (λ _. true) b.registers ≤ count (λ w. g.joined v w && not (listed vs w)) g.size =
        image (λ w. c w - b.first) (λ w. g.joined v w && not (listed vs w)) g.size b.registers (λ _. true) (λ r lo _.
        found (λ i hi. elim (cases_Bool (leb b.first i)) [
          | inl e ↦ rw e (h i (leb-true _ _ e) hi)
          | inr e ↦ rw e
        ]) r lo) in
        let same : count (λ _. true) b.registers ≡ b.registers = count_whole (λ _. true) b.registers (λ _ _. refl) in
        omega arith)
    go (Some r) h = and_from _ _ (le-leb _ _ h.0) (lt-ltb _ _ h.1)

-- where each of the list has a register to spare, so has each that passes
pub light_spare : (passes : ℕ → Bool) (k : ℕ) (g : Shape) (r : List ℕ) → LightList k g r → SpareList passes k g r
light_spare passes k g [] l = tt
light_spare passes k g (v ∷ vs) l = ((λ _. l.0), light_spare passes k g vs l.1)

-- each of the list that passes, and has then a register to spare, gets one
pub painted_some : (passes : ℕ → Bool) (b : Base) → SoundBase b → (g : Shape) (c : ℕ → ℕ) (vs : List ℕ) → Distinct vs → SpareList passes b.registers g vs →
    ((w : ℕ) → listed vs w ≡ true → c w ≡ none) → (w : ℕ) → listed vs w ≡ true → passes w ≡ true →
    among b.first b.registers (painted b g c vs w) ≡ true
painted_some passes b sb g c [] d l later w h p = absurd (both_ways false refl h)
painted_some passes b sb g c (v ∷ vs) d l later w h p =
    let r : ℕ = lowest_free b g c v in
    elim (cases_eq w v) [
      | inl w=v ↦
          let same : painted b g (giving c v r) vs w ≡ r = painted_kept b g (giving c v r) vs w (rw w=v d.0) ∙ giving_here c v r w w=v in
          rw same (free_one b sb g c v vs (λ z hz. later z (or_right (eqb v z) (listed vs z) hz)) (l.0 (rw w=v at p)))
      | inr w≠v ↦
          painted_some passes b sb g (giving c v r) vs d.1 l.1
          (λ z hz. giving_there c v r z (λ e. both_ways _ d.0 (rw e at hz)) ∙ later z (or_right (eqb v z) (listed vs z) hz))
          w (elim (or_cases (eqb v w) (listed vs w) h) [
            | inl e ↦ absurd (w≠v (sym (eqb-true v w e)))
            | inr e ↦ e
          ]) p
    ]
