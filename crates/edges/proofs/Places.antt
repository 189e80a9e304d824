-- The slots are gone round: each comes once. Assumes nothing.
use Rattle.std.proofs.Common.{◌≡◌, ℕ, ◌+◌, ◌-◌, ◌*◌, ◌/◌, ◌%◌, ◌^◌, ◌<◌, ◌≤◌, min, max, true, false, eqb, ltb, sym, ◌∙◌, inl, inr, arith}
use Rattle.std.proofs.lemmas.Nat.{mod_below}
use Rattle.std.proofs.lemmas.Bool.{cases_lt, lt-ltb, le-ltb, cond-true, cond-false, cases_eq, cases_Bool, eq-eqb, ne_eqb}
use Rattle.std.proofs.lemmas.Bool.Decides.{nat_tests}
use Rattle.graph.specs.Joining.{same_pair}
use Rattle.graph.proofs.Pairs.{pair_is}
use Rattle.edges.specs.Keys.{key, start, place}

pub start_below : (slots k : ℕ) → 0 < slots → start slots k < slots
unfolding start
start_below slots k h = mod_below ((k * 11400714819323198485 % 2 ^ 64) / 2 ^ 32) slots h

-- before the end, and after it
place_on : (slots k d : ℕ) → d < slots - start slots k → place slots k d ≡ start slots k + d
place_on slots k d h = cond-true {A = ℕ} (ltb d (slots - start slots k)) (start slots k + d) (d - (slots - start slots k)) (lt-ltb d (slots - start slots k) h)

place_round : (slots k d : ℕ) → slots - start slots k ≤ d → place slots k d ≡ d - (slots - start slots k)
place_round slots k d h = cond-false {A = ℕ} (ltb d (slots - start slots k)) (start slots k + d) (d - (slots - start slots k)) (le-ltb d (slots - start slots k) h)

pub place_below : (slots k d : ℕ) → d < slots → place slots k d < slots
place_below slots k d h =
    let s = start_below slots k (omega arith) in
    elim (cases_lt d (slots - start slots k)) [
      | inl l ↦ let e = place_on slots k d l in omega arith
      | inr g ↦ let e = place_round slots k d g in omega arith
    ]

-- every slot comes
pub place_onto : (slots k i : ℕ) → i < slots → (d : ℕ) × ((d < slots) × (place slots k d ≡ i))
place_onto slots k i h =
    let s = start_below slots k (omega arith) in
    elim (cases_lt i (start slots k)) [
      | inl l ↦
          let d : ℕ = i + (slots - start slots k) in
          let e = place_round slots k d (omega arith) in
          (d, (omega arith, e ∙ (let back : d - (slots - start slots k) ≡ i = omega arith in back)))
      | inr g ↦
          let d : ℕ = i - start slots k in
          let e = place_on slots k d (omega arith) in
          (d, (omega arith, e ∙ (let back : start slots k + d ≡ i = omega arith in back)))
    ]

-- and none twice
pub place_once : (slots k d e : ℕ) → d < slots → e < slots → place slots k d ≡ place slots k e → d ≡ e
place_once slots k d e hd he same =
    let s = start_below slots k (omega arith) in
    elim (cases_lt d (slots - start slots k)) [
      | inl l ↦ let x = place_on slots k d l in elim (cases_lt e (slots - start slots k)) [
        | inl m ↦ let y = place_on slots k e m in omega arith
        | inr n ↦ let y = place_round slots k e n in omega arith
      ]
      | inr g ↦ let x = place_round slots k d g in elim (cases_lt e (slots - start slots k)) [
        | inl m ↦ let y = place_on slots k e m in omega arith
        | inr n ↦ let y = place_round slots k e n in omega arith
      ]
    ]

-- a pair's word is not 0, and no other pair's
pub key_some : (u v : ℕ) → (u ≡ v → ⊥) → key u v ≡ 0 → ⊥
key_some u v ne e = omega arith

pub key_apart : (u v a b : ℕ) → u < 512 → v < 512 → a < 512 → b < 512 → eqb (key a b) (key u v) ≡ same_pair u v a b
key_apart u v a b hu hv ha hb =
    let split : key a b ≡ key u v → (max a b ≡ max u v) × (min a b ≡ min u v) = λ e. (omega arith, omega arith) in
    elim (cases_eq (key a b) (key u v)) [
      | inl e ↦ let p = split e in eq-eqb (key a b) (key u v) e ∙ sym (pairs p.0 p.1)
      | inr n ↦ ne_eqb (key a b) (key u v) n ∙ sym (not_pair (λ e f. n (rw (e, f))))
    ]
  where
    pairs : (max a b ≡ max u v) → (min a b ≡ min u v) → same_pair u v a b ≡ true
    pairs e f = grind (arith, nat_tests)

    not_pair : ((max a b ≡ max u v) → (min a b ≡ min u v) → ⊥) → same_pair u v a b ≡ false
    not_pair n = elim (cases_Bool (same_pair u v a b)) [
      | inl t ↦ elim (pair_is u v a b t) [
        | inl (x, y) ↦ absurd (n (rw (x, y)) (rw (x, y)))
        | inr (x, y) ↦ absurd (n (rw (x, y) (omega arith)) (rw (x, y) (omega arith)))
      ]
      | inr t ↦ t
    ]
