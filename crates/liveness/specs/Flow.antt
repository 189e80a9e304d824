-- What a row reads and sets, and which rows follow it. A row past the end reads nothing, sets nothing, and nothing follows it.
use Rattle.std.specs.Prelude.{ℕ, ◌+◌, Bool, false, cond, not, ◌||◌, List, Some, None, Option, ◌==◌}
use Rattle.std.specs.List.{slice_get}
use Rattle.code.specs.Rows.{Fields}

-- whether a field is there and holds this number
abbrev pub names : Option ℕ → ℕ → Bool
names None v = false
names (Some x) v = v == x

-- a row reads its sources
abbrev pub row_reads : Fields → ℕ → Bool
row_reads f v = names f.first v || names f.second v

-- a row sets its destination
abbrev pub row_sets : Fields → ℕ → Bool
row_sets f v = names f.destination v

-- every row goes on to the next one but a jump and an end
abbrev pub goes_on : Fields → Bool
goes_on f = not (f.kind == 4 || f.kind == 7)

-- a row at place i is followed by its target, where it has one, and by the next row, where it goes on
abbrev pub row_followed : Fields → ℕ → ℕ → Bool
row_followed f i j = names f.target j || cond (goes_on f) (j == i + 1) false

-- a test of the row at a place, which no place past the end passes
abbrev pub passes : Option Fields → (Fields → Bool) → Bool
passes None test = false
passes (Some f) test = test f

-- whether the row at place i reads v
unfoldable pub reads : List Fields → ℕ → ℕ → Bool
reads rows i v = passes (slice_get rows i) (λ f. row_reads f v)

-- whether the row at place i sets v
unfoldable pub sets : List Fields → ℕ → ℕ → Bool
sets rows i v = passes (slice_get rows i) (λ f. row_sets f v)

-- whether the row at place j may come right after the one at place i
unfoldable pub follows : List Fields → ℕ → ℕ → Bool
follows rows i j = passes (slice_get rows i) (λ f. row_followed f i j)
