-- Taking away one light vertex after the other finds out whether a graph can be emptied. Assumes nothing.
use Rattle.std.proofs.Common.{◌≡◌, ℕ, zero, suc, ◌+◌, ◌<◌, ◌≤◌, Bool, true, false, ltb, Some, None, Decides, Option, refl, inl, inr, arith}
use Rattle.std.proofs.lemmas.Bool.{and_parts, ltb-true, both_ways, not-true, not_from_false, false_from_ne_true}
use Rattle.graph.specs.Counting.{count, any, first}
use Rattle.graph.specs.Shape.{Shape, Lawful}
use Rattle.graph.proofs.Counting.{count_le}
use Rattle.session_laws.specs.Emptying.{loose, CanBeEmptied}
use Rattle.session_laws.specs.Peeling.{bound_in, light_in, without, left_of, empties}
use Rattle.session_laws.proofs.Counts.{Nowhere, any_found, any_nowhere, count_mono, but, but_from, but_parts, count_less}
use Rattle.session_laws.proofs.Cores.{Core, parts_of, from_parts, in_loose, all_heavy, emptied_no_core, no_core_emptied}
use Rattle.session_laws.proofs.Painting.{First, first_is}

-- every core lies in the set c, and c is of loose vertices
pub record Covers (fixed : ℕ → Bool) (k : ℕ) (s : Shape) (c : ℕ → Bool) : Type 0 where
  pub of_loose : (v : ℕ) → c v ≡ true → loose fixed s v ≡ true
  pub of_cores : (d : ℕ → Bool) → Core fixed k s d → (v : ℕ) → d v ≡ true → c v ≡ true

pub covers_loose : (fixed : ℕ → Bool) (k : ℕ) (s : Shape) → Covers fixed k s (loose fixed s)
covers_loose fixed k s = record { of_loose = λ v h. h; of_cores = λ d core v h. core.within v h }

-- a light vertex is in no core
pub covers_less : (fixed : ℕ → Bool) (k : ℕ) (s : Shape) (c : ℕ → Bool) (u : ℕ) →
    bound_in fixed s c u < k → Covers fixed k s c → Covers fixed k s (but c u)
covers_less fixed k s c u light h = record {
  of_loose = λ v e. h.of_loose v (but_parts c u v e).0;
  of_cores = λ d core v e. but_from c u v (h.of_cores d core v e) (λ v=u.
      let many : k ≤ bound_in fixed s d u = core.heavy u (rw v=u at e) in
      let less : bound_in fixed s d u ≤ bound_in fixed s c u = count_mono _ _ s.size (λ w _ j.
      let p = parts_of (s.joined u w) (fixed w) (d w) j in
      from_parts (s.joined u w) (fixed w) (c w) p.0 (elim p.1 [ inl f ↦ inl f | inr f ↦ inr (h.of_cores d core w f) ])) in
      omega arith);
}

-- nothing left: the graph can be emptied
pub none_left : (fixed : ℕ → Bool) (k : ℕ) (s : Shape) → Lawful s → (c : ℕ → Bool) → Covers fixed k s c →
    Nowhere c s.size → CanBeEmptied fixed k s
none_left fixed k s l c h none = no_core_emptied fixed k s l (λ d core.
    let v = core.someone.0 in
    let cv = h.of_cores d core v core.someone.1 in
    both_ways _ (none v (in_loose fixed s l v (h.of_loose v cv))) cv)

-- some left and none of them light: it cannot
pub some_left : (fixed : ℕ → Bool) (k : ℕ) (s : Shape) → Lawful s → (c : ℕ → Bool) → Covers fixed k s c → any c s.size ≡ true →
    Nowhere (light_in fixed k s c) s.size → CanBeEmptied fixed k s → ⊥
some_left fixed k s l c h some none e =
    emptied_no_core fixed k s l e c (all_heavy fixed k s l c h.of_loose (any_found c s.size some) none)

-- where no vertex is light, nothing more is taken away
stuck : (fixed : ℕ → Bool) (k : ℕ) (s : Shape) (n : ℕ) (c : ℕ → Bool) → first (light_in fixed k s c) 0 s.size ≡ None → left_of fixed k s n c ≡ c
stuck fixed k s zero c e = refl
stuck fixed k s (suc n) c e = rw e (stuck fixed k s n c e)

abbrev Settles : (ℕ → Bool) → ℕ → Shape → (ℕ → Bool) → Type 0
Settles fixed k s c = (any c s.size ≡ false → CanBeEmptied fixed k s) × (any c s.size ≡ true → CanBeEmptied fixed k s → ⊥)

settles : (fixed : ℕ → Bool) (k : ℕ) (s : Shape) → Lawful s → (n : ℕ) (c : ℕ → Bool) → count c s.size ≤ n → Covers fixed k s c →
    Settles fixed k s (left_of fixed k s n c)
settles fixed k s l zero c room h = (
  λ none. none_left fixed k s l c h (any_nowhere c s.size none),
  λ some e.
      let f = any_found c s.size some in
      let less : count (but c f.0) s.size + 1 ≤ count c s.size = count_less c f.0 s.size f.1 f.2 in
      omega arith,
)
settles fixed k s l (suc n) c room h =
    go (first (light_in fixed k s c) 0 s.size) refl (first_is (light_in fixed k s c) 0 s.size) (settles fixed k s l n)
  where
    go : (o : Option ℕ) → first (light_in fixed k s c) 0 s.size ≡ o → First (light_in fixed k s c) 0 s.size o →
        ((c : ℕ → Bool) → count c s.size ≤ n → Covers fixed k s c → Settles fixed k s (left_of fixed k s n c)) →
        Settles fixed k s (left_of fixed k s n (without c o))
    go None e is later =
        let same : left_of fixed k s n c ≡ c = stuck fixed k s n c e in
        rw same (
          λ none. none_left fixed k s l c h (any_nowhere c s.size none),
          λ some. some_left fixed k s l c h some (λ v lo. is v (omega arith) (omega arith)),
        )
    go (Some u) e is later =
        let p = and_parts (c u) (ltb (bound_in fixed s c u) k) is.2 in
        let inside : u < 0 + s.size = is.1 in
        let less : count (but c u) s.size + 1 ≤ count c s.size = count_less c u s.size (omega arith) p.0 in
        later (but c u) (omega arith) (covers_less fixed k s c u (ltb-true _ _ p.1) h)

pub empties_decides : (fixed : ℕ → Bool) (k : ℕ) (s : Shape) → Lawful s → Decides (empties fixed k s) (CanBeEmptied fixed k s)
unfolding empties
empties_decides fixed k s l =
    let all = settles fixed k s l s.size (loose fixed s) (count_le (loose fixed s) s.size) (covers_loose fixed k s) in (
      λ yes'. all.0 (not-true _ yes'),
      λ e. not_from_false _ (false_from_ne_true (any (left_of fixed k s s.size (loose fixed s)) s.size) (λ some. all.1 some e)),
    )
