-- Worked cases: what a new matrix of 512 vertices answers, and what is answered before opening. Assumes nothing.
use Rattle.std.specs.Prelude.{ℕ, List, [], ◌∷◌, map, Ok, Err, Result}
use Rattle.graph.specs.Joining.{join_answer}
use Rattle.graph.specs.Opening.{opening_number}
use Rattle.graph.specs.Refusals.{number_of}
use Rattle.graph.specs.Stores.{empty_store}
use Rattle.graph.specs.declared.opening.OpeningRefusal.{OpeningRefusal}
use Rattle.graph.specs.declared.refusal.Refusal.{Refusal}
use Rattle.matrix.specs.Layout.{triangle, bytes_for}
use Rattle.matrix.specs.Matrix.{matrix_opening}

pub data Question : Type 0 where
  -- how many bytes n vertices need
  needed : ℕ → Question
  -- to open n vertices over so many bytes
  opened : ℕ → ℕ → Question
  -- to join two numbers in a new matrix of 512 vertices
  joined : ℕ → ℕ → Question

-- 0 where it is granted, else the refusal's number
abbrev pub join_number : Result (Unit {0}) Refusal → ℕ
join_number (Ok x) = 0
join_number (Err r) = number_of r

abbrev pub open_number : Result (Unit {0}) OpeningRefusal → ℕ
open_number (Ok x) = 0
open_number (Err r) = opening_number r

abbrev pub answered : Question → ℕ
answered (needed n) = bytes_for n
answered (opened n bytes) = open_number (matrix_opening n bytes)
answered (joined u v) = join_number (join_answer (empty_store 512 (triangle 512)) u v)

abbrev pub questions : List Question
questions =
    joined 0 511 ∷ joined 511 512 ∷ joined 5 5 ∷ opened 31 20000 ∷ opened 513 20000 ∷ needed 512 ∷ opened 512 16352 ∷ opened 512 16351 ∷ []

abbrev pub answers : List ℕ
answers = map answered questions
