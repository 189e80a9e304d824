-- Reading and writing rows. Assumes nothing.
use Rattle.std.proofs.Common.{◌≡◌, ℕ, zero, suc, ◌<◌, ◌≤◌, false, ltb, List, [], ◌∷◌, length, get_or, set, Some, None, Option, Bor, sym, refl, ap, ◌∙◌, arith}
use Rattle.std.proofs.lemmas.Bool.{ltb-true, ltb-false}
use Rattle.std.specs.Option.{MatchOption, IfSome, is_some, option_copied}
use Rattle.numbers.specs.Sets.{has}
use Rattle.numbers.specs.declared.number_set.NumberSet.{NumberSet}
use Rattle.board.specs.Rows.{row_has}

pub row_at : (rows : List NumberSet) (u v : ℕ) (d : NumberSet) → u < length rows → row_has rows u v ≡ has (get_or rows u d) v
unfolding row_has
row_at [] u v d l = absurd (omega arith)
row_at (row ∷ rows) zero v d l = refl
row_at (row ∷ rows) (suc u) v d l = row_at rows u v d (omega arith)

pub row_past : (rows : List NumberSet) (u v : ℕ) → length rows ≤ u → row_has rows u v ≡ false
unfolding row_has
row_past [] u v l = refl
row_past (row ∷ rows) zero v l = absurd (omega arith)
row_past (row ∷ rows) (suc u) v l = row_past rows u v (omega arith)

pub row_set_same : (rows : List NumberSet) (u v : ℕ) (row : NumberSet) → u < length rows → row_has (set rows u row) u v ≡ has row v
unfolding row_has
row_set_same [] u v row l = absurd (omega arith)
row_set_same (first ∷ rows) zero v row l = refl
row_set_same (first ∷ rows) (suc u) v row l = row_set_same rows u v row (omega arith)

pub row_set_other : (rows : List NumberSet) (w u v : ℕ) (row : NumberSet) → (u ≡ w → ⊥) → row_has (set rows w row) u v ≡ row_has rows u v
unfolding row_has
row_set_other [] w u v row ne = refl
row_set_other (first ∷ rows) zero zero v row ne = absurd (ne refl)
row_set_other (first ∷ rows) zero (suc u) v row ne = refl
row_set_other (first ∷ rows) (suc w) zero v row ne = refl
row_set_other (first ∷ rows) (suc w) (suc u) v row ne = row_set_other rows w u v row (λ e. ne (ap suc e))

-- what is read of the row at u, where there is one, and the empty set past the end
pub row_read : (rows : List NumberSet) (u v : ℕ) (row : NumberSet) (found : Option (Bor NumberSet)) → is_some found ≡ ltb u (length rows) →
    IfSome found (λ x. x.now ≡ get_or rows u x.now) → MatchOption (option_copied found) ((k : ℕ) → has row k ≡ false) (λ x. row ≡ x) →
    has row v ≡ row_has rows u v
row_read rows u v row None past none read = read v ∙ sym (row_past rows u v (ltb-false _ _ (sym past)))
row_read rows u v row (Some x) inside here read = ap (λ (s : NumberSet). has s v) (read ∙ here) ∙ sym (row_at rows u v x.now (ltb-true _ _ (sym inside)))
