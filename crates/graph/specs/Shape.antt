-- What a graph means: its shape, which is all that can be asked of it, and with it how many pairs can still be joined.
-- Assumes nothing.
use Rattle.std.specs.Prelude.{◌≡◌, ℕ, ◌-◌, ◌<◌, ◌≤◌, Bool, true, false, Option}
use Rattle.graph.specs.Counting.{count, first}

-- Vertices are the numbers below size. Those that stand can be joined; a view lets fewer stand than the graph below it.
pub record Shape : Type 0 where
  pub size : ℕ
  pub stands : ℕ → Bool
  pub joined : ℕ → ℕ → Bool

-- What every graph's shape keeps.
pub record Lawful (s : Shape) : Type 0 where
  pub least : 32 ≤ s.size
  pub most : s.size ≤ 512
  pub inside : (v : ℕ) → s.stands v ≡ true → v < s.size
  pub symmetric : (u v : ℕ) → s.joined u v ≡ s.joined v u
  pub apart : (v : ℕ) → s.joined v v ≡ false
  pub standing : (u v : ℕ) → s.joined u v ≡ true → s.stands u ≡ true

-- A graph that pairs can be joined in. free is how many more pairs it has room for.
pub record Meaning : Type 0 where
  pub shape : Shape
  pub free : ℕ

-- how many vertices u is joined to
abbrev pub degree : Shape → ℕ → ℕ
degree s u = count (s.joined u) s.size

-- the lowest vertex, not below `from`, that u is joined to
abbrev pub next : Shape → ℕ → ℕ → Option ℕ
next s u from = first (s.joined u) from (s.size - from)
