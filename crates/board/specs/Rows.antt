-- Rows of numbers: what a list of sets says of each pair. Assumes nothing.
use Rattle.std.specs.Prelude.{ℕ, zero, suc, Bool, false, cond, not, ◌&&◌, ◌||◌, List, [], ◌∷◌, ◌==◌}
use Rattle.numbers.specs.Sets.{has}
use Rattle.numbers.specs.declared.number_set.NumberSet.{NumberSet}

-- whether v is in the row of u; there is none past the end
unfoldable pub row_has : List NumberSet → ℕ → ℕ → Bool
row_has [] u v = false
row_has (row ∷ rows) zero v = has row v
row_has (row ∷ rows) (suc u) v = row_has rows u v

-- in the rows of those that pass, low takes the place of high
abbrev pub spread_to : (ℕ → Bool) → ℕ → ℕ → (ℕ → ℕ → Bool) → ℕ → ℕ → Bool
spread_to passes low high rows u v = cond (passes u) ((rows u v && not (v == high)) || v == low) (rows u v)

-- the row of high goes into the row of low, and low takes the place of high in the rows of those that high was joined to
abbrev pub rows_merged : ℕ → ℕ → (ℕ → ℕ → Bool) → ℕ → ℕ → Bool
rows_merged low high rows u v =
    cond (u == high) false (cond (u == low) (rows low v || rows high v) (spread_to (rows high) low high rows u v))
