-- A graph in which a list of pairs was joined joins these pairs and those that it joined before. Assumes nothing.
use Rattle.std.proofs.Common.{◌≡◌, ℕ, ◌+◌, ◌-◌, ◌<◌, Bool, true, false, ◌&&◌, eqb, ◌⊎◌, List, [], ◌∷◌, Ok, Err, Result, sym, refl, ap, ◌∙◌, subst, inl, inr, arith}
use Rattle.std.proofs.lemmas.Bool.{cases_Bool, and_parts, and_from, or_cases, or_left, or_right, eqb-true, ne_eqb}
use Rattle.std.proofs.lemmas.Bool.Decides.{nat_tests}
use Rattle.graph.specs.Shape.{Shape, Meaning, Lawful}
use Rattle.graph.specs.Judging.{judged}
use Rattle.graph.specs.Joining.{judge_of, join_answer, join_meaning, with_pair, same_pair}
use Rattle.graph.specs.Stores.{open_pairs}
use Rattle.graph.specs.declared.pair.Pair.{Pair}
use Rattle.graph.specs.declared.pair.Pair.TheVariants.{Present, Fresh}
use Rattle.graph.specs.declared.refusal.Refusal.{Refusal}
use Rattle.graph.proofs.Joining.{refused_answer, refused_meaning, present_answer, present_meaning, Unjoined, fresh_pair, pair_fresh, full_answer, full_meaning, added_answer, added_meaning}
use Rattle.graph.proofs.Pairs.{with_pair_lawful}
use Rattle.graph.proofs.Stores.{open_with_pair}
use Rattle.allocation.specs.Interference.{Edge, Filled, filled, then_filled}
use Rattle.allocation.specs.Edges.{Listed, AllStanding}

abbrev added_to : Meaning → ℕ → ℕ → Meaning
added_to m u v = record { shape = with_pair m.shape u v; free = m.free - 1 }

pair_itself : (u v : ℕ) → same_pair u v u v ≡ true
pair_itself u v = grind (arith, nat_tests)

-- The three ways of a join: refused, joined before, added.
abbrev Ways : Meaning → ℕ → ℕ → Type 0
Ways m u v =
    ((r : Refusal) × ((join_answer m u v ≡ Err r) × (join_meaning m u v ≡ m))) ⊎
    (((m.shape.joined u v ≡ true) × (join_meaning m u v ≡ m)) ⊎
    ((eqb m.free 0 ≡ false) × (Unjoined m.shape u v × (join_meaning m u v ≡ added_to m u v))))

judged_present : (n u v : ℕ) (t j : Bool) → judged n u v t j ≡ Ok Present → j ≡ true
judged_present n u v t j e = grind (arith, nat_tests)

ways : (m : Meaning) (u v : ℕ) → Ways m u v
ways m u v = by_pair (judge_of m.shape u v) refl
  where
    by_pair : (p : Result Pair Refusal) → judge_of m.shape u v ≡ p → Ways m u v
    by_pair (Err r) e = inl (r, (refused_answer m u v r e, refused_meaning m u v r e))
    by_pair (Ok Present) e = inr (inl (judged_present m.shape.size u v (m.shape.stands u && m.shape.stands v) (m.shape.joined u v) e, present_meaning m u v e))
    by_pair (Ok Fresh) e = elim (cases_Bool (eqb m.free 0)) [
      | inl none ↦ let h = eqb-true m.free 0 none in inl (_, (full_answer m u v e h, full_meaning m u v e h))
      | inr some ↦ inr (inr (some, (fresh_pair m.shape u v e, added_meaning m u v e some)))
    ]

-- what one pair more keeps, a join keeps
join_left : (P : Shape → Type 0) (m : Meaning) (u v : ℕ) → P m.shape → (Unjoined m.shape u v → P (with_pair m.shape u v)) →
    P (join_meaning m u v).shape
join_left P m u v h added = elim (ways m u v) [
  | inl refused ↦ subst (λ (n : Meaning). P n.shape) (sym refused.1.1) h
  | inr (inl before) ↦ subst (λ (n : Meaning). P n.shape) (sym before.1) h
  | inr (inr new) ↦ subst (λ (n : Meaning). P n.shape) (sym new.1.1) (added new.1.0)
]

pub join_lawful : (m : Meaning) (u v : ℕ) → Lawful m.shape → Lawful (join_meaning m u v).shape
join_lawful m u v l = join_left Lawful m u v l (λ k. with_pair_lawful m.shape u v k.u_stands k.v_stands k.differ l)

-- what was joined stays so, and the size and what stands stay
pub join_keeps : (m : Meaning) (u v a b : ℕ) → m.shape.joined a b ≡ true → (join_meaning m u v).shape.joined a b ≡ true
join_keeps m u v a b h =
    join_left (λ (s : Shape). s.joined a b ≡ true) m u v h (λ _. or_left (m.shape.joined a b) (same_pair u v a b) h)

pub join_size : (m : Meaning) (u v : ℕ) → (join_meaning m u v).shape.size ≡ m.shape.size
join_size m u v = join_left (λ (s : Shape). s.size ≡ m.shape.size) m u v refl (λ _. refl)

pub join_stands : (m : Meaning) (u v : ℕ) → (join_meaning m u v).shape.stands ≡ m.shape.stands
join_stands m u v = join_left (λ (s : Shape). s.stands ≡ m.shape.stands) m u v refl (λ _. refl)

-- a pair that is granted is joined
join_done : (m : Meaning) (u v : ℕ) → join_answer m u v ≡ Ok tt → (join_meaning m u v).shape.joined u v ≡ true
join_done m u v ok = elim (ways m u v) [
  | inl refused ↦ let e = refused.1.0 in let z : ◌≡◌ {A = ℕ} 0 1 = cc in absurd (omega arith)
  | inr (inl before) ↦ ap (λ (n : Meaning). n.shape.joined u v) before.1 ∙ before.0
  | inr (inr new) ↦ ap (λ (n : Meaning). n.shape.joined u v) new.1.1 ∙ or_right (m.shape.joined u v) (same_pair u v u v) (pair_itself u v)
]

-- and no other is
join_only : (m : Meaning) (u v a b : ℕ) → (join_meaning m u v).shape.joined a b ≡ true → (m.shape.joined a b ≡ true) ⊎ (same_pair u v a b ≡ true)
join_only m u v a b h = elim (ways m u v) [
  | inl refused ↦ inl (sym (ap (λ (n : Meaning). n.shape.joined a b) refused.1.1) ∙ h)
  | inr (inl before) ↦ inl (sym (ap (λ (n : Meaning). n.shape.joined a b) before.1) ∙ h)
  | inr (inr new) ↦ or_cases (m.shape.joined a b) (same_pair u v a b) (sym (ap (λ (n : Meaning). n.shape.joined a b) new.1.1) ∙ h)
]

-- the first of a list is granted, and then the others
head_granted : (m : Meaning) (e : Edge) (es : List Edge) → (filled m (e ∷ es)).answer ≡ Ok tt →
    (join_answer m e.one e.other ≡ Ok tt) × (filled m (e ∷ es) ≡ filled (join_meaning m e.one e.other) es)
head_granted m e es = by_answer (join_answer m e.one e.other) (join_meaning m e.one e.other) (filled (join_meaning m e.one e.other) es)
  where
    by_answer : (a : Result (Unit {0}) Refusal) (next : Meaning) (rest : Filled) → (then_filled a next rest).answer ≡ Ok tt →
        (a ≡ Ok tt) × (then_filled a next rest ≡ rest)
    by_answer (Ok x) next rest ok = (refl, refl)
    by_answer (Err r) next rest ok = let z : ◌≡◌ {A = ℕ} 0 1 = cc in absurd (omega arith)

pub filled_keeps : (es : List Edge) (m : Meaning) → (filled m es).answer ≡ Ok tt → (a b : ℕ) → m.shape.joined a b ≡ true → (filled m es).left.shape.joined a b ≡ true
filled_keeps [] m ok a b h = h
filled_keeps (e ∷ es) m ok a b h =
    let first = head_granted m e es ok in
    let next = join_meaning m e.one e.other in
    ap (λ (f : Filled). f.left.shape.joined a b) first.1 ∙
    filled_keeps es next (sym (ap (λ (f : Filled). f.answer) first.1) ∙ ok) a b (join_keeps m e.one e.other a b h)

-- all of the list are joined
pub filled_all : (es : List Edge) (m : Meaning) → (filled m es).answer ≡ Ok tt → (u v : ℕ) → Listed es u v → (filled m es).left.shape.joined u v ≡ true
filled_all [] m ok u v h = absurd h
filled_all (e ∷ es) m ok u v h =
    let first = head_granted m e es ok in
    let next = join_meaning m e.one e.other in
    let rest : (filled next es).answer ≡ Ok tt = sym (ap (λ (f : Filled). f.answer) first.1) ∙ ok in
    ap (λ (f : Filled). f.left.shape.joined u v) first.1 ∙ elim h [
      | inl here ↦ filled_keeps es next rest u v (rw (sym here.0, sym here.1) (join_done m e.one e.other first.0))
      | inr later ↦ filled_all es next rest u v later
    ]

-- nothing else is joined
pub filled_only : (es : List Edge) (m : Meaning) → (filled m es).answer ≡ Ok tt → (u v : ℕ) → (filled m es).left.shape.joined u v ≡ true →
    (m.shape.joined u v ≡ true) ⊎ (Listed es u v ⊎ Listed es v u)
filled_only [] m ok u v h = inl h
filled_only (e ∷ es) m ok u v h =
    let first = head_granted m e es ok in
    let next = join_meaning m e.one e.other in
    let rest : (filled next es).answer ≡ Ok tt = sym (ap (λ (f : Filled). f.answer) first.1) ∙ ok in
    elim (filled_only es next rest u v (sym (ap (λ (f : Filled). f.left.shape.joined u v) first.1) ∙ h)) [
      | inl now ↦ elim (join_only m e.one e.other u v now) [
        | inl before ↦ inl before
        | inr pair ↦ elim (or_cases (eqb u e.one && eqb v e.other) (eqb u e.other && eqb v e.one) pair) [
          | inl same ↦
              let p = and_parts (eqb u e.one) (eqb v e.other) same in
              inr (inl (inl (sym (eqb-true _ _ p.0), sym (eqb-true _ _ p.1))))
          | inr turned ↦
              let p = and_parts (eqb u e.other) (eqb v e.one) turned in
              inr (inr (inl (sym (eqb-true _ _ p.1), sym (eqb-true _ _ p.0))))
        ]
      ]
      | inr (inl later) ↦ inr (inl (inr later))
      | inr (inr later) ↦ inr (inr (inr later))
    ]

-- what every join keeps, a list of them keeps
filled_left : (P : Shape → Type 0) → ((m : Meaning) (u v : ℕ) → P m.shape → P (join_meaning m u v).shape) → (es : List Edge) (m : Meaning) →
    P m.shape → P (filled m es).left.shape
filled_left P kept [] m h = h
filled_left P kept (e ∷ es) m h =
    let next = join_meaning m e.one e.other in
    let here : P next.shape = kept m e.one e.other h in
    by_answer (join_answer m e.one e.other) next (filled next es) here (filled_left P kept es next here)
  where
    by_answer : (a : Result (Unit {0}) Refusal) (next : Meaning) (rest : Filled) → P next.shape → P rest.left.shape → P (then_filled a next rest).left.shape
    by_answer (Ok x) next rest here later = later
    by_answer (Err r) next rest here later = here

pub filled_lawful : (es : List Edge) (m : Meaning) → Lawful m.shape → Lawful (filled m es).left.shape
filled_lawful es m l = filled_left Lawful join_lawful es m l

pub filled_size : (es : List Edge) (m : Meaning) → (filled m es).left.shape.size ≡ m.shape.size
filled_size es m = filled_left (λ (s : Shape). s.size ≡ m.shape.size) (λ n u v h. join_size n u v ∙ h) es m refl

pub filled_stands : (es : List Edge) (m : Meaning) → (filled m es).left.shape.stands ≡ m.shape.stands
filled_stands es m = filled_left (λ (s : Shape). s.stands ≡ m.shape.stands) (λ n u v h. join_stands n u v ∙ h) es m refl

-- a store with room for every pair that is not joined is never full
roomy_on : (m : Meaning) (u v : ℕ) → Lawful m.shape → m.free ≡ open_pairs m.shape → m.shape.stands u ≡ true → m.shape.stands v ≡ true → eqb u v ≡ false →
    (join_answer m u v ≡ Ok tt) × ((join_meaning m u v).free ≡ open_pairs (join_meaning m u v).shape)
roomy_on m u v l room su sv ne = elim (cases_Bool (m.shape.joined u v)) [
  | inl j ↦
      let p : judge_of m.shape u v ≡ Ok Present = judged_joined m.shape.size u v _ _ (l.inside u su) (l.inside v sv) (and_from _ _ su sv) ne j in
      (present_answer m u v p, ap (λ (n : Meaning). n.free) (present_meaning m u v p) ∙ (room ∙ sym (ap (λ (n : Meaning). open_pairs n.shape) (present_meaning m u v p))))
  | inr j ↦
      let p : judge_of m.shape u v ≡ Ok Fresh = pair_fresh m.shape u v (record {
        u_inside = l.inside u su;
        v_inside = l.inside v sv;
        u_stands = su;
        v_stands = sv;
        differ = ne;
        unjoined = j;
      }) in
      let less : open_pairs m.shape ≡ open_pairs (with_pair m.shape u v) + 1 = open_with_pair m.shape u v (l.inside u su) (l.inside v sv) ne l j in
      let some : eqb m.free 0 ≡ false = ne_eqb m.free 0 (λ e. omega arith) in
      let after = added_meaning m u v p some in
      let left : m.free - 1 ≡ open_pairs (with_pair m.shape u v) = omega arith in
      (added_answer m u v p some, ap (λ (n : Meaning). n.free) after ∙ (left ∙ sym (ap (λ (n : Meaning). open_pairs n.shape) after)))
]
  where
    judged_joined : (n u v : ℕ) (t j : Bool) → u < n → v < n → t ≡ true → eqb u v ≡ false → j ≡ true → judged n u v t j ≡ Ok Present
    judged_joined n u v t j hu hv ht ne hj = grind (arith, nat_tests)

pub filled_fine : (es : List Edge) (m : Meaning) → Lawful m.shape → m.free ≡ open_pairs m.shape → AllStanding m.shape es → (filled m es).answer ≡ Ok tt
filled_fine [] m l room all = refl
filled_fine (e ∷ es) m l room all =
    let one = roomy_on m e.one e.other l room all.0.0 all.0.1 all.0.2 in
    let next = join_meaning m e.one e.other in
    let rest = filled_fine es next (join_lawful m e.one e.other l) one.1 (standing_on es m.shape next.shape (sym (join_stands m e.one e.other)) all.1) in
    ap (λ (a : Result (Unit {0}) Refusal). (then_filled a next (filled next es)).answer) one.0 ∙ rest
  where
    standing_on : (es : List Edge) (s t : Shape) → s.stands ≡ t.stands → AllStanding s es → AllStanding t es
    standing_on [] s t same h = tt
    standing_on (e ∷ es) s t same h = (
      (sym (ap (λ (f : ℕ → Bool). f e.one) same) ∙ h.0.0, sym (ap (λ (f : ℕ → Bool). f e.other) same) ∙ h.0.1, h.0.2),
      standing_on es s t same h.1,
    )
