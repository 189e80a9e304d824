-- A table keeps the laws of a graph. Assumes nothing.
use Rattle.std.specs.Prelude.{◌≡◌, ℕ, ◌+◌, ◌*◌, ◌≤◌, List}
use Rattle.std.proofs.Common.{ap, ap₂}
use Rattle.std.proofs.Math.Nat.{max_comm, min_comm}
use Rattle.graph.specs.Shape.{Lawful}
use Rattle.graph.proofs.Stores.{marked_lawful}
use Rattle.edges.specs.Keys.{key}
use Rattle.edges.specs.Table.{has_key, table_shape}

key_turned : (u v : ℕ) → key u v ≡ key v u
key_turned u v = ap₂ (λ (high low : ℕ). high * 512 + low) (max_comm u v) (min_comm u v)

pub table_lawful : (n : ℕ) (words : List ℕ) → 32 ≤ n → n ≤ 512 → Lawful (table_shape n words)
table_lawful n words = marked_lawful n (λ u v. has_key words (key u v)) (λ u v. ap (has_key words) (key_turned u v))
