-- What is asked of code, from how its rows are kept.
use Rattle.std.proofs.Common.{◌≡◌, ℕ, ◌+◌, ◌<◌, Bool, true, false, cond, List, map, length, get_or, take, Some, None, Option, IfSome, slice_get, sym, refl, ◌∙◌, arith, length-take, get_or-take}
use lib.ListN.{length-map}
use Rattle.std.specs.List.{count_by}
use Rattle.std.proofs.lemmas.List.{length-take-le}
use Rattle.std.proofs.lemmas.Option.{slice_get_within, get_or_from_slice_get}
use Rattle.std.proofs.lemmas.List.Recursion.{is_count_by}
use Rattle.code.specs.Codes.{rows_of, moves_in, is_move}
use Rattle.code.specs.Fits.{row_fits}
use Rattle.code.specs.Rows.{fields}
use Rattle.code.specs.declared.body.Code.{Code}
use Rattle.code.specs.declared.row.Row.{Row}
use Rattle.code.specs.declared.row.Row.TheVariants.{End}

more : (b : Bool) (n : ℕ) → cond b 1 0 + n ≡ cond b (1 + n) n
more true n = refl
more false n = omega arith

pub moves_counted : (rows : List (Row (List ℕ))) → moves_in (map fields rows) ≡ count_by (λ row. is_move (fields row)) rows
moves_counted rows =
    is_count_by (λ xs. moves_in (map fields xs)) (λ row. is_move (fields row)) refl (λ row xs. more (is_move (fields row)) (moves_in (map fields xs))) rows

-- code has as many rows as it counts
pub code_length : (c : Code) → length (rows_of c) ≡ c.len
unfolding rows_of
code_length c = length-map (take c.len c.rows) fields ∙ length-take-le c.len c.rows (omega (arith, c.whole, c.room, c.few))

-- each of its rows keeps its bounds
pub row_within : (c : Code) (place : ℕ) (o : Option (Row (List ℕ))) → o ≡ slice_get (take c.len c.rows) place
    → IfSome o (λ row. row_fits c.numbers c.reach row ≡ true)
row_within c place None e = tt
row_within c place (Some row) e =
    let inside : place < c.len = omega (arith, slice_get_within (take c.len c.rows) place row (sym e), length-take c.len c.rows) in
    let there : get_or c.rows place End ≡ row =
    sym (get_or-take c.len c.rows place End inside) ∙ get_or_from_slice_get (take c.len c.rows) place row End (sym e) in
    rw there at (c.fits place inside)
