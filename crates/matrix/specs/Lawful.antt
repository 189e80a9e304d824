-- A matrix keeps the laws of a graph. Assumes nothing.
use Rattle.std.specs.Prelude.{◌≡◌, ℕ, ◌+◌, ◌≤◌, List}
use Rattle.std.proofs.Common.{ap, ap₂}
use Rattle.std.proofs.Math.Nat.{max_comm, min_comm}
use Rattle.graph.specs.Shape.{Lawful}
use Rattle.graph.proofs.Stores.{marked_lawful}
use Rattle.matrix.specs.Layout.{triangle, cell, bit_at}
use Rattle.matrix.specs.Matrix.{matrix_shape}

cell_turned : (u v : ℕ) → cell u v ≡ cell v u
cell_turned u v = ap₂ (λ (high low : ℕ). triangle high + low) (max_comm u v) (min_comm u v)

pub matrix_lawful : (n : ℕ) (bytes : List ℕ) → 32 ≤ n → n ≤ 512 → Lawful (matrix_shape n bytes)
matrix_lawful n bytes = marked_lawful n (λ u v. bit_at bytes (cell u v)) (λ u v. ap (bit_at bytes) (cell_turned u v))
