-- The maps of an operator, and how an operator is read.
use Rattle.std.proofs.Common.{◌≡◌, ℕ, true, false, eqb, List, [], ◌∷◌, Some, Option, refl, inl, inr}
use Rattle.std.proofs.lemmas.Bool.{eqb-true, or_cases, false≢true}
use Rattle.std.specs.List.{AllByRecursion}
use Rattle.code.specs.Kinds.{has_field, among, operator_maps}
use Rattle.code.specs.Rows.{Fields}
use Rattle.fields.specs.Operands.{operand}
use Rattle.fields.specs.Reading.{Read, got, bad, then}
use Rattle.fields.specs.declared.place.Place.{Place}
use Rattle.records.specs.Records.{body_at, operator_at}

-- what holds of each of some numbers holds of one among them
pub among_holds : (P : ℕ → Type 0) (xs : List ℕ) (m : ℕ) → AllByRecursion P xs → among xs m ≡ true → P m
among_holds P [] m all e = absurd (false≢true e)
among_holds P (x ∷ xs) m all e =
    elim (or_cases (eqb m x) (among xs m) e) [
      | inl h ↦ rw (eqb-true m x h) all.0
      | inr h ↦ among_holds P xs m all.1 h
    ]

-- a field that is there, read on from
there : (x : Read ℕ) (f : Option ℕ → ℕ → Read Fields) (g : ℕ → ℕ → Read Fields) → ((v p : ℕ) → f (Some v) p ≡ g v p)
    → then (then x (λ v p. got (Some v) p)) f ≡ then x g
there (got v p) f g e = e v p
there (bad n p) f g e = refl

abbrev Same : Place → ℕ → ℕ → Type 0
Same p k m = body_at p false k m ≡ operator_at p k (has_field 0x04 m) (has_field 0x10 m)

pub operator_read : (p : Place) (k m : ℕ) → among operator_maps m ≡ true → Same p k m
operator_read p k m e =
    let read = operand p.limits.now p.bytes.now in
    let at_03 : Same p k 0x03 = there (read p.at) _ _ (λ d q. there (read q) _ _ (λ f r. refl)) in
    let at_07 : Same p k 0x07 = there (read p.at) _ _ (λ d q. there (read q) _ _ (λ f r. refl)) in
    let at_13 : Same p k 0x13 = there (read p.at) _ _ (λ d q. there (read q) _ _ (λ f r. refl)) in
    let at_17 : Same p k 0x17 = there (read p.at) _ _ (λ d q. there (read q) _ _ (λ f r. refl)) in
    among_holds (Same p k) operator_maps m (at_03, (at_07, (at_13, (at_17, tt)))) e
