-- A word put into the empty slot where looking for it ends. Assumes nothing.
use Rattle.std.proofs.Common.{◌≡◌, ℕ, ◌+◌, ◌<◌, not, ◌&&◌, ◌||◌, eqb, ltb, ◌≢◌, List, length, get_or, set, Some, sym, ap, ◌∙◌, inl, inr, arith, length-set, get_or-set_other, get_or-set_same}
use Rattle.std.proofs.lemmas.Bool.{and_parts, or_cases, or_left, or_right, cases_Bool, cases_eq, eqb-true, eq-eqb, ne_eqb, ltb-true, eqb-false, not-true, not_from_true, not_from_false, true≢false}
use Rattle.graph.specs.Counting.{count}
use Rattle.graph.proofs.Counting.{any_witness, any_from, first_found}
use Rattle.graph.proofs.Merging.{same_test}
use Rattle.graph.proofs.Stores.{count_one}
use Rattle.edges.specs.Keys.{place}
use Rattle.edges.specs.Table.{has_key, probed, stops, landing, filled}
use Rattle.edges.proofs.Finding.{Gapless, gap_free}
use Rattle.edges.proofs.Places.{place_below, place_once}

-- a table is gapless where no empty slot comes before a word
pub gap_from : (words : List ℕ) → ((k e d : ℕ) → d < e → e < length words → (k ≡ 0 → ⊥) → probed words k e ≡ k → probed words k d ≡ 0 → ⊥) →
    Gapless words
gap_from words h k e d = elim (cases_Bool (ltb d e && (ltb e (length words) && (not (eqb k 0) && (eqb (probed words k e) k && eqb (probed words k d) 0))))) [
  | inl t ↦
      let p = and_parts (ltb d e) (ltb e (length words) && (not (eqb k 0) && (eqb (probed words k e) k && eqb (probed words k d) 0))) t in
      let q = and_parts (ltb e (length words)) (not (eqb k 0) && (eqb (probed words k e) k && eqb (probed words k d) 0)) p.1 in
      let r = and_parts (not (eqb k 0)) (eqb (probed words k e) k && eqb (probed words k d) 0) q.1 in
      let s = and_parts (eqb (probed words k e) k) (eqb (probed words k d) 0) r.1 in
      absurd (h k e d (ltb-true d e p.0) (ltb-true e (length words) q.0) (eqb-false k 0 (not-true (eqb k 0) r.0))
      (eqb-true (probed words k e) k s.0) (eqb-true (probed words k d) 0 s.1))
  | inr f ↦ not_from_false (ltb d e && (ltb e (length words) && (not (eqb k 0) && (eqb (probed words k e) k && eqb (probed words k d) 0)))) f
]

-- Where a word that stands nowhere goes.
pub record Landed (words : List ℕ) (k d : ℕ) : Type 0 where
  pub some : k ≡ 0 → ⊥
  pub ends : landing words k ≡ Some d
  pub inside : d < length words
  pub empty : probed words k d ≡ 0

module _ (words : List ℕ) (k d : ℕ) (l : Landed words k d) where
  abbrev slot : ℕ
  slot = place (length words) k d

  abbrev after : List ℕ
  after = set words slot k

  slot_inside : slot < length words
  slot_inside = place_below (length words) k d l.inside

  here : get_or after slot 0 ≡ k
  here = get_or-set_same words slot k 0 slot_inside

  elsewhere : (i : ℕ) → (i ≡ slot → ⊥) → get_or after i 0 ≡ get_or words i 0
  elsewhere i ne = let other : i ≢ slot = ne in get_or-set_other words slot i k 0 other

  long : length after ≡ length words
  long = length-set words slot k

  probed_after : (j e : ℕ) → probed after j e ≡ get_or after (place (length words) j e) 0
  probed_after j e = ap (λ (s : ℕ). get_or after (place s j e) 0) long

  pub added_gapless : Gapless words → Gapless after
  added_gapless g = gap_from after (λ j e c hd he hj there empty-before.
      let there-now = sym (probed_after j e) ∙ there in
      let before-now = sym (probed_after j c) ∙ empty-before in
      let e-inside : e < length words = omega (arith, long) in
      elim (cases_eq (place (length words) j c) slot) [
        | inl same ↦ l.some (sym here ∙ (sym (ap (λ (i : ℕ). get_or after i 0) same) ∙ before-now))
        | inr other ↦
            let empty-c : probed words j c ≡ 0 = sym (elsewhere (place (length words) j c) other) ∙ before-now in
            elim (cases_eq (place (length words) j e) slot) [
              | inl same ↦
                  let is : k ≡ j = sym here ∙ (sym (ap (λ (i : ℕ). get_or after i 0) same) ∙ there-now) in
                  let at : place (length words) k e ≡ slot = ap (λ (x : ℕ). place (length words) x e) is ∙ same in
                  let steps : e ≡ d = place_once (length words) k e d e-inside l.inside at in
                  let f = first_found (stops words k) (length words) 0 d l.ends in
                  let empty-k : probed words k c ≡ 0 = ap (λ (x : ℕ). probed words x c) is ∙ empty-c in
                  let stop = or_right (eqb (probed words k c) k) (eqb (probed words k c) 0) (eq-eqb (probed words k c) 0 empty-k) in
                  true≢false (sym stop ∙ f.3 c (omega arith) (omega arith))
              | inr apart ↦
                  gap_free words g j e c hd e-inside hj (sym (elsewhere (place (length words) j e) apart) ∙ there-now) empty-c
            ]
      ])

  pub added_key : (j : ℕ) → (j ≡ 0 → ⊥) → has_key after j ≡ (has_key words j || eqb j k)
  added_key j hj = same_test (has_key after j) (has_key words j || eqb j k)
      (λ h.
      let w = any_witness (λ i. eqb (get_or after i 0) j) (length after) h in
      let i : ℕ = w.0 in
      let i-inside : i < length words = (let b : i < length after = w.1.0 in omega (arith, long)) in
      let is : get_or after i 0 ≡ j = eqb-true (get_or after i 0) j w.1.1 in
      elim (cases_eq i slot) [
        | inl same ↦ or_right (has_key words j) (eqb j k) (eq-eqb j k (sym is ∙ (ap (λ (x : ℕ). get_or after x 0) same ∙ here)))
        | inr other ↦ or_left (has_key words j) (eqb j k)
            (any_from (λ x. eqb (get_or words x 0) j) (length words) i i-inside (eq-eqb (get_or words i 0) j (sym (elsewhere i other) ∙ is)))
      ])
      (λ h. elim (or_cases (has_key words j) (eqb j k) h) [
        | inl t ↦
            let w = any_witness (λ i. eqb (get_or words i 0) j) (length words) t in
            let i : ℕ = w.0 in
            let i-inside : i < length after = (let b : i < length words = w.1.0 in omega (arith, long)) in
            let is : get_or words i 0 ≡ j = eqb-true (get_or words i 0) j w.1.1 in
            let other : i ≡ slot → ⊥ = λ e. hj (sym is ∙ (ap (λ (x : ℕ). get_or words x 0) e ∙ l.empty)) in
            any_from (λ x. eqb (get_or after x 0) j) (length after) i i-inside (eq-eqb (get_or after i 0) j (elsewhere i other ∙ is))
        | inr t ↦
            let same : j ≡ k = eqb-true j k t in
            let s-inside : slot < length after = (let b : slot < length words = slot_inside in omega (arith, long)) in
            any_from (λ x. eqb (get_or after x 0) j) (length after) slot s-inside (eq-eqb (get_or after slot 0) j (here ∙ sym same))
      ])

  pub added_filled : filled after ≡ filled words + 1
  unfolding filled
  added_filled =
      ap (count (λ i. not (eqb (get_or after i 0) 0))) long
      ∙ count_one (λ i. not (eqb (get_or after i 0) 0)) (λ i. not (eqb (get_or words i 0) 0)) (length words) slot slot_inside
      (not_from_false (eqb (get_or after slot 0) 0) (ne_eqb (get_or after slot 0) 0 (λ z. l.some (sym here ∙ z))))
      (not_from_true (eqb (get_or words slot 0) 0) (eq-eqb (get_or words slot 0) 0 l.empty))
      (λ i below other. ap (λ (x : ℕ). not (eqb x 0)) (elsewhere i other))
