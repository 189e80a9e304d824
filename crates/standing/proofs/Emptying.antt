-- Taking away one light vertex after the other. Assumes nothing.
use Rattle.std.proofs.Common.{◌≡◌, ℕ, zero, suc, ◌+◌, ◌-◌, ◌<◌, ◌≤◌, Bool, true, false, not, ◌&&◌, eqb, Some, None, Option, sym, refl, ap, ◌∙◌, inl, inr, arith}
use Rattle.std.proofs.lemmas.Bool.{cases_Bool, both_ways, and_parts}
use Rattle.std.proofs.Math.Bool.{not-not}
use Rattle.graph.specs.Counting.{any, count, first}
use Rattle.graph.proofs.Counting.{any_witness, any_from, count_le, first_found}
use Rattle.graph.specs.Shape.{Shape}
use mathlib.Core.Path.{fun_ext}
use Rattle.session_laws.proofs.Counts.{but, count_less}
use Rattle.session_laws.specs.Peeling.{light_in, without, left_of}

-- what is left of a set after some turns: each takes one vertex out
abbrev pub Peeled : (ℕ → Bool) → ℕ → Shape → (ℕ → Bool) → (ℕ → Bool) → Type 0
Peeled fixed k s start rest =
    ((v : ℕ) → rest v ≡ true → v < s.size)
    × ((turns : ℕ) × (turns + count rest s.size ≤ s.size) × (left_of fixed k s (s.size - turns) rest ≡ left_of fixed k s s.size start))

pub peel_start : (fixed : ℕ → Bool) (k : ℕ) (s : Shape) (c : ℕ → Bool) → ((v : ℕ) → c v ≡ true → v < s.size) → Peeled fixed k s c c
peel_start fixed k s c inside =
    let few : count c s.size ≤ s.size = count_le c s.size in
    let none : s.size - 0 ≡ s.size = omega arith in
    (inside, (0, omega arith, ap (λ (n : ℕ). left_of fixed k s n c) none))

module _ (fixed : ℕ → Bool) (k : ℕ) (s : Shape) (start c d : ℕ → Bool) (v : ℕ) (light : first (light_in fixed k s c) 0 s.size ≡ Some v)
    (taken : (w : ℕ) → d w ≡ (c w && not (eqb w v))) where
  pub there : c v ≡ true
  there = (and_parts (c v) _ (first_found (light_in fixed k s c) s.size 0 v light).2).0

  pub one_fewer : v < s.size → count d s.size < count c s.size
  one_fewer low =
      let same : count d s.size ≡ count (but c v) s.size = ap (λ (p : ℕ → Bool). count p s.size) (fun_ext taken) in
      let less : count (but c v) s.size + 1 ≤ count c s.size = count_less c v s.size low there in
      omega arith

  pub peel_one : Peeled fixed k s start c → Peeled fixed k s start d
  peel_one so_far =
      let low : v < s.size = so_far.0 v there in
      let turns = so_far.1.0 in
      let few : turns + count c s.size ≤ s.size = so_far.1.1 in
      let less : count d s.size < count c s.size = one_fewer low in
      let step : s.size - turns ≡ suc (s.size - (turns + 1)) = omega arith in
      let next : left_of fixed k s (s.size - turns) c ≡ left_of fixed k s (s.size - (turns + 1)) d =
      rw step (ap (λ (x : ℕ → Bool). left_of fixed k s (s.size - (turns + 1)) x) (ap (without c) light ∙ sym (fun_ext taken))) in (
        λ w h. so_far.0 w (and_parts (c w) _ (sym (taken w) ∙ h)).0,
        (turns + 1, omega arith, sym next ∙ so_far.1.2),
      )

still : (fixed : ℕ → Bool) (k : ℕ) (s : Shape) (c : ℕ → Bool) → first (light_in fixed k s c) 0 s.size ≡ None → (n : ℕ) → left_of fixed k s n c ≡ c
still fixed k s c none zero = refl
still fixed k s c none (suc n) = ap (λ (o : Option ℕ). left_of fixed k s n (without c o)) none ∙ still fixed k s c none n

-- one turn
pub one_less : (fixed : ℕ → Bool) (k : ℕ) (s : Shape) (n i : ℕ) (c d : ℕ → Bool) → i < n →
    d ≡ without c (first (light_in fixed k s c) 0 s.size) → left_of fixed k s (n - (i + 1)) d ≡ left_of fixed k s (n - i) c
one_less fixed k s n i c d l e =
    let step : n - i ≡ suc (n - (i + 1)) = omega arith in
    rw step (ap (λ (x : ℕ → Bool). left_of fixed k s (n - (i + 1)) x) e)

-- nothing comes in: what is left after some turns was there before
fewer : (c : ℕ → Bool) (o : Option ℕ) (v : ℕ) → without c o v ≡ true → c v ≡ true
fewer c None v h = h
fewer c (Some u) v h = (and_parts (c v) (not (eqb v u)) h).0

pub left_in : (fixed : ℕ → Bool) (k : ℕ) (s : Shape) (n : ℕ) (c : ℕ → Bool) (v : ℕ) → left_of fixed k s n c v ≡ true → c v ≡ true
left_in fixed k s zero c v h = h
left_in fixed k s (suc n) c v h = fewer c (first (light_in fixed k s c) 0 s.size) v (left_in fixed k s n (without c (first (light_in fixed k s c) 0 s.size)) v h)

-- where nothing light is left, further turns change nothing
pub peel_end : (fixed : ℕ → Bool) (k : ℕ) (s : Shape) (start c : ℕ → Bool) → first (light_in fixed k s c) 0 s.size ≡ None →
    Peeled fixed k s start c → c ≡ left_of fixed k s s.size start
peel_end fixed k s start c none so_far = sym (still fixed k s c none (s.size - so_far.1.0)) ∙ so_far.1.2

pub not_some : (o : Option ℕ) → ((x : ℕ) → o ≡ Some x → ⊥) → o ≡ None
not_some None h = refl
not_some (Some x) h = absurd (h x refl)

-- whether a set is empty
pub none_there : (p : ℕ → Bool) (n : ℕ) (r : Bool) → (r ≡ true → (k : ℕ) → p k ≡ false) → (r ≡ false → (k : ℕ) × (p k ≡ true)) →
    ((k : ℕ) → p k ≡ true → k < n) → r ≡ not (any p n)
none_there p n r none some inside = elim (cases_Bool r) [
  | inl t ↦ elim (cases_Bool (any p n)) [
    | inl a ↦ absurd (let w = any_witness p n a in both_ways (p w.0) (none t w.0) w.1.1)
    | inr a ↦ rw a t
  ]
  | inr f ↦
      let w = some f in
      let a : any p n ≡ true = any_from p n w.0 (inside w.0 w.1) w.1 in
      rw a f
]

-- whether a set has a member
pub some_there : (set p : ℕ → Bool) (n : ℕ) (r : Bool) → ((k : ℕ) → set k ≡ p k) → (r ≡ true → (k : ℕ) → set k ≡ false) → (r ≡ false → (k : ℕ) × (set k ≡ true)) →
    ((k : ℕ) → p k ≡ true → k < n) → not r ≡ any p n
some_there set p n r same none some inside =
    ap not (none_there p n r (λ t k. sym (same k) ∙ none t k) (λ f. let w = some f in (w.0, sym (same w.0) ∙ w.1)) inside) ∙ not-not (any p n)
