-- The bounds that the rows of one piece of code keep.
use Rattle.std.specs.Prelude.{ℕ, Bool, true, ◌&&◌, Some, None, Option, List, nat_lt}
use Rattle.code.specs.Rows.{fields}
use Rattle.code.specs.declared.row.Row.{Row}

-- a field that is there holds a number below the bound
abbrev pub below : ℕ → Option ℕ → Bool
below bound None = true
below bound (Some x) = nat_lt x bound

-- every number of the row is below `numbers`, and its target is below `reach`
unfoldable pub row_fits : ℕ → ℕ → Row (List ℕ) → Bool
row_fits numbers reach row =
    below numbers (fields row).destination && (below numbers (fields row).first
    && (below numbers (fields row).second && below reach (fields row).target))
