-- Which numbers are live where, by paths.
use Rattle.std.specs.Prelude.{◌≡◌, ℕ, true, false, List}
use Rattle.code.specs.Rows.{Fields}
use Rattle.liveness.specs.Flow.{reads, sets, follows}

-- a number is live before a row when some path from that row reads it before any row sets it:
-- the row reads it, or does not set it and goes on to a row before which it is live. A row reads before it sets.
pub data LiveBefore (rows : List Fields) : ℕ → ℕ → Type 0 where
  read_here : {i v : ℕ} → reads rows i v ≡ true → LiveBefore rows i v
  read_later : {i v : ℕ} (j : ℕ) → sets rows i v ≡ false → follows rows i j ≡ true → LiveBefore rows j v → LiveBefore rows i v

-- a number is live after a row when it is live before a following one
abbrev pub LiveAfter : List Fields → ℕ → ℕ → Type 0
LiveAfter rows i v = (j : ℕ) × (follows rows i j ≡ true) × LiveBefore rows j v

-- the rows that some path from the first row comes to
pub data Reached (rows : List Fields) : ℕ → Type 0 where
  at_first : Reached rows 0
  one_on : {j : ℕ} (i : ℕ) → Reached rows i → follows rows i j ≡ true → Reached rows j
