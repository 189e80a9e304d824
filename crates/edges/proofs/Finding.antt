-- In a table without gaps, what stands in some slot is found. Assumes nothing.
use Rattle.std.proofs.Common.{◌≡◌, ℕ, ◌+◌, ◌<◌, true, false, not, ◌&&◌, eqb, ltb, List, length, get_or, Some, None, Option, sym, refl, ap, ◌∙◌, inl, inr, arith}
use Rattle.std.proofs.lemmas.Bool.{and_from, or_cases, or_left, or_parts, cases_Bool, cases_order, eqb-true, eq-eqb, eqb-false, ne_eqb, lt-ltb, not_from_false, true≢false}
use Rattle.graph.proofs.Counting.{any_witness, any_from, first_found, first_missed, count_whole}
use Rattle.edges.specs.Keys.{place}
use Rattle.edges.specs.Table.{has_key, probed, stops, landing, found_at, no_gap, filled}
use Rattle.edges.proofs.Places.{place_below, place_onto}

abbrev pub Gapless : List ℕ → Type 0
Gapless words = (k e d : ℕ) → no_gap words k e d ≡ true

-- what the invariant says: no empty slot comes before a word that stands there
pub gap_free : (words : List ℕ) → Gapless words → (k e d : ℕ) → d < e → e < length words → (k ≡ 0 → ⊥) →
    probed words k e ≡ k → probed words k d ≡ 0 → ⊥
gap_free words g k e d hd he hk there empty =
    let all : (ltb d e && (ltb e (length words) && (not (eqb k 0) && (eqb (probed words k e) k && eqb (probed words k d) 0)))) ≡ true =
    and_from (ltb d e) (ltb e (length words) && (not (eqb k 0) && (eqb (probed words k e) k && eqb (probed words k d) 0))) (lt-ltb d e hd)
    (and_from (ltb e (length words)) (not (eqb k 0) && (eqb (probed words k e) k && eqb (probed words k d) 0)) (lt-ltb e (length words) he)
    (and_from (not (eqb k 0)) (eqb (probed words k e) k && eqb (probed words k d) 0) (not_from_false (eqb k 0) (ne_eqb k 0 hk))
    (and_from (eqb (probed words k e) k) (eqb (probed words k d) 0) (eq-eqb (probed words k e) k there) (eq-eqb (probed words k d) 0 empty)))) in
    true≢false (sym (g k e d) ∙ ap not all)

-- a word in some slot stands some steps on
pub key_steps : (words : List ℕ) (k : ℕ) → has_key words k ≡ true → (e : ℕ) × ((e < length words) × (probed words k e ≡ k))
key_steps words k h =
    let w = any_witness (λ i. eqb (get_or words i 0) k) (length words) h in
    let i : ℕ = w.0 in
    let o = place_onto (length words) k i w.1.0 in
    (o.0, (o.1.0, ap (λ (x : ℕ). get_or words x 0) o.1.1 ∙ eqb-true (get_or words i 0) k w.1.1))

pub steps_key : (words : List ℕ) (k d : ℕ) → d < length words → probed words k d ≡ k → has_key words k ≡ true
steps_key words k d h e =
    any_from (λ i. eqb (get_or words i 0) k) (length words) (place (length words) k d) (place_below (length words) k d h)
    (eq-eqb (probed words k d) k e)

-- where looking for a word that stands nowhere ends, there is an empty slot
pub found_key : (words : List ℕ) (k : ℕ) → Gapless words → (k ≡ 0 → ⊥) → found_at words k (landing words k) ≡ has_key words k
found_key words k g hk = ended (landing words k) refl
  where
    ended : (o : Option ℕ) → landing words k ≡ o → found_at words k o ≡ has_key words k
    ended None e = elim (cases_Bool (has_key words k)) [
      | inl h ↦
          let s = key_steps words k h in
          let never = first_missed (stops words k) (length words) 0 e s.0 (omega arith) (let l : s.0 < length words = s.1.0 in omega arith) in
          let stop = or_left (eqb (probed words k s.0) k) (eqb (probed words k s.0) 0) (eq-eqb (probed words k s.0) k s.1.1) in
          absurd (true≢false (sym stop ∙ never))
      | inr h ↦ sym h
    ]
    ended (Some d) e =
        let f = first_found (stops words k) (length words) 0 d e in
        let inside : d < length words = (let l : d < 0 + length words = f.1 in omega arith) in
        elim (cases_Bool (eqb (probed words k d) k)) [
          | inl there ↦ there ∙ sym (steps_key words k d inside (eqb-true (probed words k d) k there))
          | inr other ↦ elim (cases_Bool (has_key words k)) [
            | inl h ↦
                let s = key_steps words k h in
                let x : ℕ = s.0 in
                let stop = or_left (eqb (probed words k x) k) (eqb (probed words k x) 0) (eq-eqb (probed words k x) k s.1.1) in
                let empty : probed words k d ≡ 0 = elim (or_cases (eqb (probed words k d) k) (eqb (probed words k d) 0) f.2) [
                  | inl t ↦ absurd (true≢false (sym t ∙ other))
                  | inr t ↦ eqb-true (probed words k d) 0 t
                ] in
                elim (cases_order x d) [
                  | inl same ↦ absurd (eqb-false (probed words k d) k other (ap (probed words k) (sym same) ∙ s.1.1))
                  | inr (inl less) ↦ absurd (true≢false (sym stop ∙ f.3 x (omega arith) less))
                  | inr (inr more) ↦ absurd (gap_free words g k x d more s.1.0 hk s.1.1 empty)
                ]
            | inr h ↦ other ∙ sym h
          ]
        ]

-- with a slot left, looking for a word that stands nowhere ends in an empty slot
pub empty_slot : (words : List ℕ) (k : ℕ) → filled words < length words → has_key words k ≡ false →
    (d : ℕ) × ((landing words k ≡ Some d) × ((d < length words) × (probed words k d ≡ 0)))
unfolding filled
empty_slot words k left none = ended (landing words k) refl
  where
    ended : (o : Option ℕ) → landing words k ≡ o → (d : ℕ) × ((landing words k ≡ Some d) × ((d < length words) × (probed words k d ≡ 0)))
    ended None e =
        let used : (i : ℕ) → i < length words → not (eqb (get_or words i 0) 0) ≡ true = λ i h.
        let o = place_onto (length words) k i h in
        let never = first_missed (stops words k) (length words) 0 e o.0 (omega arith) (let l : o.0 < length words = o.1.0 in omega arith) in
        let both = or_parts (eqb (probed words k o.0) k) (eqb (probed words k o.0) 0) never in
        let at : probed words k o.0 ≡ get_or words i 0 = ap (λ (x : ℕ). get_or words x 0) o.1.1 in
        not_from_false (eqb (get_or words i 0) 0) (sym (ap (λ (x : ℕ). eqb x 0) at) ∙ both.1) in
        let all = count_whole (λ i. not (eqb (get_or words i 0) 0)) (length words) used in
        absurd (omega arith)
    ended (Some d) e =
        let f = first_found (stops words k) (length words) 0 d e in
        let inside : d < length words = (let l : d < 0 + length words = f.1 in omega arith) in (
          d,
          (
            e,
            (
              inside,
              elim (or_cases (eqb (probed words k d) k) (eqb (probed words k d) 0) f.2) [
                | inl t ↦ absurd (true≢false (sym (steps_key words k d inside (eqb-true (probed words k d) k t)) ∙ none))
                | inr t ↦ eqb-true (probed words k d) 0 t
              ],
            ),
          ),
        )
