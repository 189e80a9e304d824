-- How the words of a refusal begin.
use Rattle.std.specs.Prelude.{◌≡◌, ℕ, List, ◌++◌}
pub use Rattle.formula.specs.Words.{record_rule, rule}

-- a text that begins with these words
abbrev pub Begins : List ℕ → List ℕ → Type 0
Begins words text = (rest : List ℕ) × (text ≡ words ++ rest)
