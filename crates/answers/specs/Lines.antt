-- The lines that are printed of a formula.
use Rattle.std.specs.Prelude.{ℕ, List, [], ◌∷◌, ◌++◌, codes, decimal}

-- a fixed word, a blank, a number and a line feed, and then what follows
abbrev pub line : List ℕ → ℕ → List ℕ → List ℕ
line word n rest = word ++ (32 ∷ (decimal n ++ (10 ∷ rest)))

-- three lines of a formula in order
abbrev pub accepted_lines : ℕ → ℕ → ℕ → List ℕ
accepted_lines records values moves = line (codes "records") records (line (codes "values") values (line (codes "moves") moves []))

-- one line of a refusal: its number and its place
abbrev pub refused_line : ℕ → ℕ → List ℕ
refused_line number place = codes "refused " ++ (decimal number ++ (codes " at " ++ (decimal place ++ (10 ∷ []))))
