-- What holds of live numbers in any code.
use Rattle.std.specs.Prelude.{◌≡◌, ℕ, ◌≤◌, Bool, true, false, ◌⊎◌, List, ◌≢◌}
use Rattle.code.specs.Rows.{Fields}
use Rattle.liveness.specs.Flow.{reads, sets, follows}
use Rattle.liveness.specs.Live.{LiveBefore, LiveAfter, Reached}
use Rattle.liveness.specs.Joins.{BothRegisters, Joined, MoveEnds}
use Rattle.liveness.specs.Ways.{Way}

-- what a row reads, together with what is live after it and not set by it
abbrev pub FromRow : List Fields → ℕ → ℕ → Type 0
FromRow rows i v = (reads rows i v ≡ true) ⊎ ((sets rows i v ≡ false) × LiveAfter rows i v)

-- one set of numbers for each row: it has what the row reads, and what a following row's set has and the row does not set
pub record Family (rows : List Fields) (member : ℕ → ℕ → Bool) : Type 0 where
  pub has_read : (i v : ℕ) → reads rows i v ≡ true → member i v ≡ true
  pub has_later : (i j v : ℕ) → sets rows i v ≡ false → follows rows i j ≡ true → member j v ≡ true → member i v ≡ true

-- no value, a number of 32 or more, is live before the first row
abbrev pub AllDefined : List Fields → Type 0
AllDefined rows = (v : ℕ) → 32 ≤ v → LiveBefore rows 0 v → ⊥

pub record Laws (rows : List Fields) : Type 0 where
  -- what is live before a row comes from it, and all that comes from it is live
  pub only : (i v : ℕ) → LiveBefore rows i v → FromRow rows i v
  pub all : (i v : ℕ) → FromRow rows i v → LiveBefore rows i v
  -- a number is live before a row exactly when there is a way from there to a row that reads it
  pub on_a_way : (i v : ℕ) → LiveBefore rows i v → (way : List ℕ) × Way rows v i way
  pub by_a_way : (i v : ℕ) (way : List ℕ) → Way rows v i way → LiveBefore rows i v
  -- live numbers are the least family of sets
  pub least : (member : ℕ → ℕ → Bool) → Family rows member → (i v : ℕ) → LiveBefore rows i v → member i v ≡ true
  -- joined goes both ways, and no number is joined to itself
  pub both_ways : (u v : ℕ) → Joined rows u v → Joined rows v u
  pub never_self : (u : ℕ) → Joined rows u u → ⊥
  -- two numbers that are live before the same row are joined, or are the ends of a move
  pub apart : AllDefined rows → (i u v : ℕ) → Reached rows i → (u ≢ v) → (BothRegisters u v → ⊥)
      → LiveBefore rows i u → LiveBefore rows i v → Joined rows u v ⊎ MoveEnds rows u v
