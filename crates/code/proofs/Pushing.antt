-- Code with one row more: each of its rows keeps the bounds where the ones before and the new one do, and the new one comes last.
use Rattle.std.proofs.Common.{◌≡◌, ℕ, ◌+◌, ◌<◌, true, ◌≢◌, List, [], ◌∷◌, ◌++◌, map, length, get_or, take, set, ap, ◌∙◌, arith, get_or-set_other, get_or-set_same, below_more}
use Rattle.std.proofs.lemmas.List.{take_more_set, map_push}
use Rattle.code.specs.Fits.{row_fits}
use Rattle.code.specs.Rows.{fields}
use Rattle.code.specs.declared.row.Row.{Row}
use Rattle.code.specs.declared.row.Row.TheVariants.{End}

module _ (rows : List (Row (List ℕ))) (len : ℕ) (row : Row (List ℕ)) (room : len < length rows) where
  pub fits_more : (numbers reach : ℕ) → ((i : ℕ) → i < len → row_fits numbers reach (get_or rows i End) ≡ true)
      → row_fits numbers reach row ≡ true
      → (i : ℕ) → i < len + 1 → row_fits numbers reach (get_or (set rows len row) i End) ≡ true
  fits_more numbers reach before here =
      below_more (λ i. row_fits numbers reach (get_or (set rows len row) i End) ≡ true) len
      (λ i h. let ne : i ≢ len = omega arith in rw get_or-set_other (before i h))
      (rw get_or-set_same here)

  pub rows_more : map fields (take (len + 1) (set rows len row)) ≡ map fields (take len rows) ++ (fields row ∷ [])
  rows_more = ap (map fields) (take_more_set rows len row room) ∙ map_push fields (take len rows) row
