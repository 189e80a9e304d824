-- Code that is rewritten row by row: each row becomes a piece of new rows, and targets follow. Assumes nothing.
use Rattle.std.specs.Prelude.{ℕ, ◌+◌, List, [], ◌∷◌, ◌++◌, map, length, take}
use Rattle.std.specs.Option.{option_map}
use Rattle.code.specs.Rows.{Fields}

-- all pieces, one behind the other
abbrev pub flat : {A : Type 0} → List (List A) → List A
flat [] = []
flat (p ∷ ps) = p ++ flat ps

-- how many rows the pieces have together
abbrev pub rows_in : List (List Fields) → ℕ
rows_in [] = 0
rows_in (p ∷ ps) = length p + rows_in ps

-- where the row t went: to the first row of its piece, or, where that is empty, to what comes next
unfoldable pub place_of : List (List Fields) → ℕ → ℕ
place_of ps t = rows_in (take t ps)

-- a row whose target, where it has one, follows
abbrev pub aimed : (ℕ → ℕ) → Fields → Fields
aimed to f = record {
  kind = f.kind;
  destination = f.destination;
  first = f.first;
  second = f.second;
  target = option_map to f.target;
  constant = f.constant;
  slot = f.slot;
}

-- the new code
unfoldable pub laid_out : List (List Fields) → List Fields
laid_out ps = map (aimed (place_of ps)) (flat ps)
