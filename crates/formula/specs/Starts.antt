-- Where the records of a formula begin.
use Rattle.std.specs.Prelude.{ℕ, ◌+◌, List, [], ◌∷◌, length}
use Rattle.code.specs.Rows.{Fields}
use Rattle.code.specs.Writing.{row_bytes}

-- the place of each record's first byte, the first record's given
abbrev pub starts_from : ℕ → List Fields → List ℕ
starts_from place [] = []
starts_from place (f ∷ fs) = place ∷ starts_from (place + length (row_bytes f)) fs
