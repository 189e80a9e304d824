-- What merging two vertices by one of the tests does to a graph. Assumes nothing.
use Rattle.std.specs.Prelude.{◌≡◌, ℕ, Bool, true, false, Decides}
use Rattle.graph.specs.Shape.{Shape, Lawful}
use Rattle.graph.specs.Views.{merged_view}
use Rattle.session_laws.specs.Emptying.{CanBeEmptied}
use Rattle.session_laws.specs.Peeling.{empties}
use Rattle.session_laws.specs.Runs.{united}
use Rattle.session_laws.specs.Tests.{briggs, george}

-- the graph in which y has gone into x
abbrev pub merged_pair : ℕ → ℕ → Shape → Shape
merged_pair x y = merged_view (united (λ v. v) y x)

-- Two vertices that could be merged: y is not fixed.
pub record TwoVertices (fixed : ℕ → Bool) (s : Shape) (x y : ℕ) : Type 0 where
  pub lawful : Lawful s
  pub one_stands : s.stands x ≡ true
  pub other_stands : s.stands y ≡ true
  pub two : x ≡ y → ⊥
  pub other_loose : fixed y ≡ false

-- Briggs's test between two loose vertices
abbrev pub BriggsKeeps : Type 0
BriggsKeeps =
    (fixed : ℕ → Bool) (k : ℕ) (s : Shape) (x y : ℕ) → TwoVertices fixed s x y → fixed x ≡ false → briggs fixed k s x y ≡ true →
    CanBeEmptied fixed k s → CanBeEmptied fixed k (merged_pair x y s)

-- George's test, whether x is fixed or loose
abbrev pub GeorgeKeeps : Type 0
GeorgeKeeps =
    (fixed : ℕ → Bool) (k : ℕ) (s : Shape) (x y : ℕ) → TwoVertices fixed s x y → george fixed k s x y ≡ true →
    CanBeEmptied fixed k s → CanBeEmptied fixed k (merged_pair x y s)

-- George's test the other way round, between two loose vertices
abbrev pub GeorgeKeepsTurned : Type 0
GeorgeKeepsTurned =
    (fixed : ℕ → Bool) (k : ℕ) (s : Shape) (x y : ℕ) → TwoVertices fixed s x y → fixed x ≡ false → george fixed k s y x ≡ true →
    CanBeEmptied fixed k s → CanBeEmptied fixed k (merged_pair x y s)

-- taking away one light vertex after the other tells whether a graph can be emptied
abbrev pub EmptiesDecides : Type 0
EmptiesDecides = (fixed : ℕ → Bool) (k : ℕ) (s : Shape) → Lawful s → Decides (empties fixed k s) (CanBeEmptied fixed k s)
