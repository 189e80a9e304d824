-- Neighbours by rows: what counting along rows gives. Assumes nothing.
use Rattle.std.specs.Prelude.{ℕ, ◌+◌, ◌-◌, Bool, List}
use Rattle.graph.specs.Counting.{count}
use Rattle.matrix.specs.Layout.{triangle, bit_at}

-- how many numbers from `from` on, before `to`, pass
abbrev pub between : (ℕ → Bool) → ℕ → ℕ → ℕ
between p from to = count (λ k. p (from + k)) (to - from)

-- whether the bit of u in row v is set
abbrev pub above : List ℕ → ℕ → ℕ → Bool
above bytes u v = bit_at bytes (triangle v + u)
