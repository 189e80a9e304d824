-- What a sceptic wants to hear of reading a formula.
use Rattle.std.specs.Prelude.{◌≡◌, ℕ, List, length}
use Rattle.records.specs.Keeping.{Bytes}
use Rattle.fields.specs.Reading.{got}
use Rattle.liveness.specs.Laws.{AllDefined}
use Rattle.formula.specs.Formulas.{Formula, formula_at}
use Rattle.formula.specs.Keeping.{formula_bytes, Keeps}

-- a formula in order: it keeps the rules, and no value is live before its first row
abbrev pub InOrder : Formula → Type 0
InOrder f = Keeps f × AllDefined f.rows

-- the input is accepted as this formula
abbrev pub Accepted : List ℕ → Formula → Type 0
Accepted input f = (formula_at input ≡ got f (length input)) × AllDefined f.rows

-- bytes are accepted as a formula exactly when they are its writing and it is in order
abbrev pub AcceptsWritings : Type 0
AcceptsWritings = (input : List ℕ) → Bytes input → (f : Formula)
    → (Accepted input f → (input ≡ formula_bytes f) × InOrder f)
    × ((input ≡ formula_bytes f) × InOrder f → Accepted input f)

-- two different formulas never have the same bytes
abbrev pub DistinctWritings : Type 0
DistinctWritings = (f g : Formula) → Keeps f → Keeps g → formula_bytes f ≡ formula_bytes g → f ≡ g
