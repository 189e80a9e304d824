-- The numbers that refusals are known by. Assumes nothing.
use Rattle.std.specs.Prelude.{ℕ}
use Rattle.graph.specs.declared.refusal.Refusal.{Refusal}
use Rattle.graph.specs.declared.refusal.Refusal.TheVariants.{NoVertex, NotStanding, ToItself, Full}

abbrev pub number_of : Refusal → ℕ
number_of NoVertex = 13
number_of NotStanding = 14
number_of ToItself = 15
number_of Full = 16
