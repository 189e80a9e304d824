-- A loop that changes one row after the other. Assumes nothing.
use Rattle.std.proofs.Common.{◌≡◌, ℕ, ◌<◌, ◌≤◌, Bool, true, false, not, ◌&&◌, ◌||◌, eqb, List, length, set, sym, refl, ap, ◌∙◌, inl, inr, arith, length-set}
use Rattle.std.proofs.lemmas.Bool.{cases_eq, eq-eqb, ne_eqb}
use Rattle.std.proofs.Math.Bool.{or-false}
use Rattle.std.proofs.lemmas.Bool.Decides.{nat_tests}
use Rattle.numbers.specs.Iterating.{place, given}
use Rattle.numbers.specs.Sets.{has}
use Rattle.numbers.specs.declared.members.Members.{Members}
use Rattle.numbers.specs.declared.number_set.NumberSet.{NumberSet}
use Rattle.board.specs.Rows.{row_has, spread_to, rows_merged}
use Rattle.board.proofs.Lookup.{row_set_same, row_set_other}

-- in the rows of those that pass, low has taken the place of high
abbrev pub Spread : (ℕ → Bool) → ℕ → ℕ → (ℕ → ℕ → Bool) → List NumberSet → Type 0
Spread passes low high old rows = (u v : ℕ) → row_has rows u v ≡ spread_to passes low high old u v

pub spread_none : (passes : ℕ → Bool) (low high : ℕ) (rows : List NumberSet) → ((k : ℕ) → passes k ≡ false) → Spread passes low high (row_has rows) rows
spread_none passes low high rows none u v = rw (none u)

pub spread_all : (passes set : ℕ → Bool) (low high : ℕ) (old : ℕ → ℕ → Bool) (rows : List NumberSet) → ((k : ℕ) → passes k ≡ set k) →
    Spread passes low high old rows → Spread set low high old rows
spread_all passes set low high old rows same so_far u v = rw (sym (same u)) (so_far u v)

-- a member that is still to come has not been given
pub given_later : (m : Members) (k : ℕ) → place m ≤ k → given m k ≡ false
given_later m k h = grind (arith, nat_tests)

-- one more passes
pub spread_turn : (passes then_passes : ℕ → Bool) (low high : ℕ) (old : ℕ → ℕ → Bool) (rows : List NumberSet) (w : ℕ) (row : NumberSet) →
    w < length rows → passes w ≡ false → ((k : ℕ) → then_passes k ≡ (passes k || eqb k w)) → Spread passes low high old rows →
    ((v : ℕ) → has row v ≡ ((row_has rows w v && not (eqb v high)) || eqb v low)) → Spread then_passes low high old (set rows w row)
spread_turn passes then_passes low high old rows w row inside fresh more so_far is u v = elim (cases_eq u w) [
  | inl e ↦
      let here : eqb w w ≡ true = eq-eqb w w refl in
      let passed : then_passes w ≡ true = more w ∙ (rw (fresh, here)) in
      let was : row_has rows w v ≡ old w v = so_far w v ∙ (rw fresh) in
      rw e (rw passed (row_set_same rows w v row inside ∙ (is v ∙ ap (λ x. (x && not (eqb v high)) || eqb v low) was)))
  | inr ne ↦
      let other : eqb u w ≡ false = ne_eqb u w ne in
      let same : then_passes u ≡ passes u = more u ∙ (rw other (or-false (passes u))) in
      rw same (row_set_other rows w u v row ne ∙ so_far u v)
]

module _ (low high : ℕ) (before spread : List NumberSet) (both empty : NumberSet) (differ : low < high) (inside : high < 512) (long : length spread ≡ 512)
    (others : (u v : ℕ) → row_has spread u v ≡ spread_to (row_has before high) low high (row_has before) u v)
    (both_is : (v : ℕ) → has both v ≡ (row_has before low v || row_has before high v)) (empty-is : (v : ℕ) → has empty v ≡ false) where
  pub rows_now : (u v : ℕ) → row_has (set (set spread low both) high empty) u v ≡ rows_merged low high (row_has before) u v
  rows_now u v =
      let long-2 : length (set spread low both) ≡ 512 = length-set spread low both ∙ long in
      elim (cases_eq u high) [
        | inl e ↦
            let is : eqb u high ≡ true = eq-eqb u high e in
            let now : row_has (set (set spread low both) high empty) high v ≡ false =
            row_set_same (set spread low both) high v empty (omega arith) ∙ empty-is v in
            rw is (rw e now)
        | inr ne ↦
            let is : eqb u high ≡ false = ne_eqb u high ne in
            let step : row_has (set (set spread low both) high empty) u v ≡ row_has (set spread low both) u v =
            row_set_other (set spread low both) high u v empty ne in
            elim (cases_eq u low) [
              | inl e ↦
                  let is-low : eqb u low ≡ true = eq-eqb u low e in
                  let now : row_has (set spread low both) low v ≡ (row_has before low v || row_has before high v) =
                  row_set_same spread low v both (omega arith) ∙ both_is v in
                  rw (is, is-low) (step ∙ rw e now)
              | inr ne-low ↦
                  let is-low : eqb u low ≡ false = ne_eqb u low ne-low in
                  rw (is, is-low) (step ∙ (row_set_other spread low u v both ne-low ∙ others u v))
            ]
      ]
