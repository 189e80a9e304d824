-- A graph can be emptied exactly when it has no core. Assumes nothing.
use Rattle.std.proofs.Common.{◌≡◌, ℕ, zero, suc, ◌+◌, ◌<◌, ◌≤◌, Bool, true, false, cond, ◌&&◌, ◌||◌, eqb, ltb, ◌⊎◌, sym, ap, ◌∙◌, inl, inr, arith}
use Rattle.std.proofs.lemmas.Bool.{cases_Bool, and_parts, and_from, eq-eqb, ne_eqb, or_cases, or_left, or_right, not_from_false, both_ways, cases_eq, lt-ltb, ltb-true, ltb-false}
use Rattle.graph.specs.Counting.{count}
use Rattle.graph.specs.Shape.{Shape, Lawful}
use Rattle.session_laws.specs.Emptying.{loose, still_joined, CanBeEmptied}
use Rattle.session_laws.specs.Peeling.{bound_in, light_in}
use Rattle.session_laws.proofs.Counts.{Found, Nowhere, find, count_mono, but, but_from, but_parts, count_less, least, second_fails}

-- A core is a set of loose vertices, not empty, in which each is joined to k or more that are fixed or in the set.
pub record Core (fixed : ℕ → Bool) (k : ℕ) (s : Shape) (c : ℕ → Bool) : Type 0 where
  pub someone : (v : ℕ) × (c v ≡ true)
  pub within : (v : ℕ) → c v ≡ true → loose fixed s v ≡ true
  pub heavy : (v : ℕ) → c v ≡ true → k ≤ bound_in fixed s c v

abbrev pub NoCore : (ℕ → Bool) → ℕ → Shape → Type 0
NoCore fixed k s = (c : ℕ → Bool) → Core fixed k s c → ⊥

-- joined, and one of two things
pub parts_of : (j x y : Bool) → (j && (x || y)) ≡ true → (j ≡ true) × ((x ≡ true) ⊎ (y ≡ true))
parts_of j x y e = let p = and_parts j (x || y) e in (p.0, or_cases x y p.1)

pub from_parts : (j x y : Bool) → j ≡ true → (x ≡ true) ⊎ (y ≡ true) → (j && (x || y)) ≡ true
from_parts j x y e either = and_from j (x || y) e (elim either [ inl a ↦ or_left x y a | inr a ↦ or_right x y a ])

pub in_loose : (fixed : ℕ → Bool) (s : Shape) → Lawful s → (v : ℕ) → loose fixed s v ≡ true → v < s.size
in_loose fixed s l v h = l.inside v (and_parts _ _ h).0

-- both ends of a pair stand
pub far_stands : (s : Shape) → Lawful s → (u v : ℕ) → s.joined u v ≡ true → s.stands v ≡ true
far_stands s l u v h = l.standing v u (l.symmetric v u ∙ h)

pub far_inside : (s : Shape) → Lawful s → (u v : ℕ) → s.joined u v ≡ true → v < s.size
far_inside s l u v h = l.inside v (far_stands s l u v h)

pub two_ends : (s : Shape) → Lawful s → (u v : ℕ) → s.joined u v ≡ true → u ≡ v → ⊥
two_ends s l u v h e = both_ways _ (l.apart v) (rw e at h)

pub emptied_no_core : (fixed : ℕ → Bool) (k : ℕ) (s : Shape) → Lawful s → CanBeEmptied fixed k s → NoCore fixed k s
emptied_no_core fixed k s l e c core =
    let v = core.someone.0 in
    let hv = core.someone.1 in
    let u = least c e.place s.size (v, in_loose fixed s l v (core.within v hv), hv) in
    let lu = core.within u.0 u.2 in
    let few : still_joined fixed s e.place u.0 < k = e.few u.0 lu in
    let many : k ≤ bound_in fixed s c u.0 = core.heavy u.0 u.2 in
    let le : bound_in fixed s c u.0 ≤ still_joined fixed s e.place u.0 = count_mono _ _ s.size (λ w h t.
    let p = parts_of _ _ _ t in
    from_parts _ _ _ p.0 (elim p.1 [
      | inl f ↦ inl f
      | inr hw ↦
          let low : e.place u.0 ≤ e.place w = u.3 w h hw in
          let differ : e.place u.0 ≡ e.place w → ⊥ = λ same.
          two_ends s l u.0 w p.0 (e.own_place u.0 w lu (core.within w hw) same) in
          inr (lt-ltb _ _ (omega arith))
    ])) in
    omega arith

-- how many vertices u is joined to that are fixed, or in the set c and at a later place
abbrev bound_later : (ℕ → Bool) → Shape → (ℕ → Bool) → (ℕ → ℕ) → ℕ → ℕ
bound_later fixed s c place u = count (λ v. s.joined u v && (fixed v || (c v && ltb (place u) (place v)))) s.size

-- an order of the vertices of c, in which each is joined to few that are fixed or later in c
abbrev Peeled : (ℕ → Bool) → ℕ → Shape → (ℕ → Bool) → Type 0
Peeled fixed k s c =
    (place : ℕ → ℕ) × ((u v : ℕ) → c u ≡ true → c v ≡ true → place u ≡ place v → u ≡ v) ×
    ((u : ℕ) → c u ≡ true → bound_later fixed s c place u < k)

peeled_none : (fixed : ℕ → Bool) (k : ℕ) (s : Shape) (c : ℕ → Bool) → ((v : ℕ) → c v ≡ true → ⊥) → Peeled fixed k s c
peeled_none fixed k s c none = ((λ _. 0), (λ u v hu hv _. absurd (none u hu)), (λ u hu. absurd (none u hu)))

-- u first, then the others in their order
abbrev before : ℕ → (ℕ → ℕ) → ℕ → ℕ
before u place w = cond (eqb w u) 0 (suc (place w))

before_same : (u : ℕ) (place : ℕ → ℕ) (w : ℕ) → w ≡ u → before u place w ≡ 0
before_same u place w e = let d : eqb w u ≡ true = eq-eqb w u e in rw d

before_other : (u : ℕ) (place : ℕ → ℕ) (w : ℕ) → (w ≡ u → ⊥) → before u place w ≡ suc (place w)
before_other u place w e = let d : eqb w u ≡ false = ne_eqb w u e in rw d

peeled_more : (fixed : ℕ → Bool) (k : ℕ) (s : Shape) (c : ℕ → Bool) (u : ℕ) → c u ≡ true → bound_in fixed s c u < k →
    Peeled fixed k s (but c u) → Peeled fixed k s c
peeled_more fixed k s c u hu light rest = (before u rest.0, own, few)
  where
    own : (v w : ℕ) → c v ≡ true → c w ≡ true → before u rest.0 v ≡ before u rest.0 w → v ≡ w
    own v w hv hw e = elim (cases_eq v u) [
      | inl v=u ↦ elim (cases_eq w u) [
        | inl w=u ↦ v=u ∙ sym w=u
        | inr w≠u ↦
            let a : before u rest.0 v ≡ 0 = before_same u rest.0 v v=u in
            let b : before u rest.0 w ≡ suc (rest.0 w) = before_other u rest.0 w w≠u in
            let z : 0 ≡ suc (rest.0 w) = sym a ∙ (e ∙ b) in absurd (omega arith)
      ]
      | inr v≠u ↦
          let a : before u rest.0 v ≡ suc (rest.0 v) = before_other u rest.0 v v≠u in
          elim (cases_eq w u) [
            | inl w=u ↦
                let b : before u rest.0 w ≡ 0 = before_same u rest.0 w w=u in
                let z : suc (rest.0 v) ≡ 0 = sym a ∙ (e ∙ b) in absurd (omega arith)
            | inr w≠u ↦
                let b : before u rest.0 w ≡ suc (rest.0 w) = before_other u rest.0 w w≠u in
                let z : suc (rest.0 v) ≡ suc (rest.0 w) = sym a ∙ (e ∙ b) in
                rest.1 v w (but_from c u v hv v≠u) (but_from c u w hw w≠u) (omega arith)
          ]
    ]

    few : (v : ℕ) → c v ≡ true →
        bound_later fixed s c (before u rest.0) v < k
    few v hv = elim (cases_eq v u) [
      | inl v=u ↦
          let less : bound_later fixed s c (before u rest.0) v ≤ bound_in fixed s c v =
          count_mono _ _ s.size (λ w h t.
          let p = parts_of (s.joined v w) (fixed w) (c w && ltb (before u rest.0 v) (before u rest.0 w)) t in
          from_parts _ _ _ p.0 (elim p.1 [ inl f ↦ inl f | inr both ↦ inr (and_parts (c w) _ both).0 ])) in
          let same : bound_in fixed s c v ≡ bound_in fixed s c u = ap (bound_in fixed s c) v=u in
          omega arith
      | inr v≠u ↦
          let light : bound_later fixed s (but c u) rest.0 v < k = rest.2 v (but_from c u v hv v≠u) in
          let a : before u rest.0 v ≡ suc (rest.0 v) = before_other u rest.0 v v≠u in
          let less : bound_later fixed s c (before u rest.0) v ≤
          bound_later fixed s (but c u) rest.0 v =
          count_mono _ _ s.size (λ w h t.
          let p = parts_of (s.joined v w) (fixed w) (c w && ltb (before u rest.0 v) (before u rest.0 w)) t in
          from_parts _ _ _ p.0 (elim p.1 [
            | inl f ↦ inl f
            | inr both ↦
                let q = and_parts (c w) (ltb (before u rest.0 v) (before u rest.0 w)) both in
                let lower : before u rest.0 v < before u rest.0 w = ltb-true _ _ q.1 in
                inr (elim (cases_eq w u) [
                  | inl w=u ↦ let b : before u rest.0 w ≡ 0 = before_same u rest.0 w w=u in absurd (omega arith)
                  | inr w≠u ↦
                      let b : before u rest.0 w ≡ suc (rest.0 w) = before_other u rest.0 w w≠u in
                      let low : rest.0 v < rest.0 w = omega arith in
                      and_from _ _ (but_from c u w q.0 w≠u) (lt-ltb _ _ low)
                ])
          ])) in
          omega arith
    ]

-- a set in which every vertex is heavy is a core
pub all_heavy : (fixed : ℕ → Bool) (k : ℕ) (s : Shape) → Lawful s → (c : ℕ → Bool) → ((v : ℕ) → c v ≡ true → loose fixed s v ≡ true) →
    Found c s.size → Nowhere (light_in fixed k s c) s.size → Core fixed k s c
all_heavy fixed k s l c inc found none = record {
  someone = (found.0, found.2);
  within = inc;
  heavy = λ v hv. ltb-false _ _ (second_fails (c v) _ (none v (in_loose fixed s l v (inc v hv))) hv);
}

peel : (fixed : ℕ → Bool) (k : ℕ) (s : Shape) → Lawful s → NoCore fixed k s → (fuel : ℕ) (c : ℕ → Bool) →
    count c s.size ≤ fuel → ((v : ℕ) → c v ≡ true → loose fixed s v ≡ true) → Peeled fixed k s c
peel fixed k s l nc zero c room inc = elim (find c s.size) [
  | inl found ↦ absurd (
      let less : count (but c found.0) s.size + 1 ≤ count c s.size = count_less c found.0 s.size found.1 found.2 in omega arith)
  | inr none ↦ peeled_none fixed k s c (λ v hv. both_ways _ (none v (in_loose fixed s l v (inc v hv))) hv)
]
peel fixed k s l nc (suc fuel) c room inc = elim (find c s.size) [
  | inl found ↦ elim (find (light_in fixed k s c) s.size) [
    | inl u ↦
        let p = and_parts _ _ u.2 in
        let less : count (but c u.0) s.size + 1 ≤ count c s.size = count_less c u.0 s.size u.1 p.0 in
        peeled_more fixed k s c u.0 p.0 (ltb-true _ _ p.1)
        (peel fixed k s l nc fuel (but c u.0) (omega arith) (λ v hv. inc v (but_parts c u.0 v hv).0))
    | inr none ↦ absurd (nc c (all_heavy fixed k s l c inc found none))
  ]
  | inr none ↦ peeled_none fixed k s c (λ v hv. both_ways _ (none v (in_loose fixed s l v (inc v hv))) hv)
]

pub no_core_emptied : (fixed : ℕ → Bool) (k : ℕ) (s : Shape) → Lawful s → NoCore fixed k s → CanBeEmptied fixed k s
no_core_emptied fixed k s l nc =
    let all : Peeled fixed k s (loose fixed s) = peel fixed k s l nc (count (loose fixed s) s.size) (loose fixed s) (omega arith) (λ v hv. hv) in
    record {
      place = all.0;
      own_place = all.1;
      few = λ u hu.
          let light : bound_later fixed s (loose fixed s) all.0 u < k = all.2 u hu in
          let less : still_joined fixed s all.0 u ≤ bound_later fixed s (loose fixed s) all.0 u =
          count_mono _ _ s.size (λ w h t.
          let p = parts_of _ _ _ t in from_parts _ _ _ p.0 (elim p.1 [
            | inl f ↦ inl f
            | inr low ↦ elim (cases_Bool (fixed w)) [
              | inl f ↦ inl f
              | inr f ↦ inr (and_from _ _ (and_from _ _ (far_stands s l u w p.0) (not_from_false _ f)) low)
            ]
          ])) in
          omega arith;
    }
