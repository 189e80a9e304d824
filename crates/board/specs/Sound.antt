-- What the arrays of a board mean, and how they hang together. Assumes nothing.
use Rattle.std.specs.Prelude.{◌≡◌, ℕ, List}
use Rattle.graph.specs.Shape.{Shape, Lawful}
use Rattle.graph.specs.Views.{merged_view}
use Rattle.numbers.specs.Sets.{has}
use Rattle.numbers.specs.declared.number_set.NumberSet.{NumberSet}
use Rattle.views.specs.Groups.{group_at}
use Rattle.board.specs.Rows.{row_has}

-- the graph that these rows are of
abbrev pub snapshot : ℕ → NumberSet → List NumberSet → Shape
snapshot size vertices given = record { size = size; stands = has vertices; joined = row_has given }

pub record SoundBoard (size : ℕ) (vertices : NumberSet) (given rows : List NumberSet) (to : List ℕ) : Type 0 where
  pub lawful : Lawful (snapshot size vertices given)
  pub up_to_date : (u v : ℕ) → row_has rows u v ≡ (merged_view (group_at to) (snapshot size vertices given)).joined u v
