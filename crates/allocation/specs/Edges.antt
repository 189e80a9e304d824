-- What a list of pairs makes of a graph. Assumes nothing.
use Rattle.std.specs.Prelude.{◌≡◌, ℕ, true, false, ◌⊎◌, List, [], ◌∷◌, ◌==◌}
use Rattle.graph.specs.Shape.{Shape}
use Rattle.allocation.specs.Interference.{Edge}

-- the pair stands in the list, one way round
abbrev pub Listed : List Edge → ℕ → ℕ → Type 0
Listed [] u v = ⊥
Listed (e ∷ es) u v = ((e.one ≡ u) × (e.other ≡ v)) ⊎ Listed es u v

-- every pair is of two different vertices that stand
abbrev pub AllStanding : Shape → List Edge → Type 0
AllStanding s [] = Unit {0}
AllStanding s (e ∷ es) = ((s.stands e.one ≡ true) × (s.stands e.other ≡ true) × ((e.one == e.other) ≡ false)) × AllStanding s es
