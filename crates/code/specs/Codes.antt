-- What a piece of code means: its rows in order, and the bounds they keep.
use Rattle.std.specs.Prelude.{ℕ, ◌+◌, Bool, cond, ◌&&◌, ◌||◌, List, [], ◌∷◌, map, take, Ok, Err, Result, ◌==◌, nat_lt}
use Rattle.code.specs.Rows.{Fields, fields}
use Rattle.code.specs.Fits.{row_fits}
use Rattle.code.specs.declared.row.Row.{Row}
use Rattle.code.specs.declared.body.Code.{Code}
use Rattle.code.specs.declared.body.build.Refused.{Refused}
use Rattle.code.specs.declared.body.build.Refused.TheVariants.{Full, OutOfBounds}

-- the rows, from the first on
unfoldable pub rows_of : Code → List Fields
rows_of c = map fields (take c.len c.rows)

-- code takes one more row when there is room and the row keeps the bounds
abbrev pub takes : Code → Row (List ℕ) → Bool
takes c row = nat_lt c.len c.reach && row_fits c.numbers c.reach row

-- a row that is not taken finds no room, or else does not keep the bounds
abbrev pub admits : Code → Row (List ℕ) → Result (Unit {0}) Refused
admits c row = cond (nat_lt c.len c.reach) (cond (row_fits c.numbers c.reach row) (Ok tt) (Err OutOfBounds)) (Err Full)

abbrev pub is_move : Fields → Bool
is_move f = f.kind == 3

-- control does not run past a jump or an end
abbrev pub goes_nowhere : Fields → Bool
goes_nowhere f = f.kind == 4 || f.kind == 7

-- how many rows are moves
abbrev pub moves_in : List Fields → ℕ
moves_in [] = 0
moves_in (f ∷ fs) = cond (is_move f) 1 0 + moves_in fs
