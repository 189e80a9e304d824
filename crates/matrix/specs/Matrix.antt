-- What n vertices and a row of bytes mean. Assumes nothing.
use Rattle.std.specs.Prelude.{◌≡◌, ℕ, Bool, List, drop, Result, nat_le}
use Rattle.graph.specs.Opening.{opening}
use Rattle.graph.specs.Shape.{Shape, Meaning}
use Rattle.graph.specs.Stores.{marked_shape, open_pairs, empty_store}
use Rattle.graph.specs.declared.opening.OpeningRefusal.{OpeningRefusal}
use Rattle.matrix.specs.Layout.{triangle, cell, bit_at, bytes_for, cleared}

-- all n vertices stand; a pair is joined when its bit is set
abbrev pub matrix_shape : ℕ → List ℕ → Shape
matrix_shape n bytes = marked_shape n (λ u v. bit_at bytes (cell u v))

-- there is room for every pair that is not joined
abbrev pub with_open_pairs : Shape → Meaning
with_open_pairs s = record { shape = s; free = open_pairs s }

abbrev pub matrix_meaning : ℕ → List ℕ → Meaning
matrix_meaning n bytes = with_open_pairs (matrix_shape n bytes)

-- whether so many bytes are enough for n vertices
abbrev pub fits_in : ℕ → ℕ → Bool
fits_in length n = nat_le (bytes_for n) length

-- what a check before opening answers
abbrev pub matrix_opening : ℕ → ℕ → Result (Unit {0}) OpeningRefusal
matrix_opening n length = opening n (fits_in length n)

-- what a new matrix is: its size, its bytes, the loan that they are, and what it means
abbrev pub NewMatrix : {Name : Type 0} → ℕ → List ℕ → Name → ℕ → List ℕ → Name → Type 0
NewMatrix n memory loan size bytes name =
    (size ≡ n) × (bytes ≡ cleared (bytes_for n) memory) × (name ≡ loan) × (matrix_meaning size bytes ≡ empty_store n (triangle n))

-- the bytes that the matrix does not use
abbrev pub behind : ℕ → List ℕ → List ℕ
behind n bytes = drop (bytes_for n) bytes
