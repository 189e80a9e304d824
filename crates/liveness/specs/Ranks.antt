-- Ranks: for one number, how many rows a shortest way from each row passes before the one that reads it. The rank 512 stands for no way known.
use Rattle.std.specs.Prelude.{◌≡◌, ℕ, ◌+◌, ◌<◌, ◌≤◌, min, Bool, true, false, cond, ◌⊎◌, List, [], ◌∷◌, Some, None, Option, nat_lt, slice_index_or}
use Rattle.code.specs.Rows.{Fields}
use Rattle.numbers.specs.Counting.{count}
use Rattle.liveness.specs.Flow.{goes_on, row_reads, row_sets, reads, sets, follows}

unfoldable pub rank : List ℕ → ℕ → ℕ
rank ranks i = slice_index_or ranks i 512

abbrev pub known : List ℕ → ℕ → Bool
known ranks i = nat_lt (rank ranks i) 512

abbrev pub target_rank : Option ℕ → (ℕ → ℕ) → ℕ
target_rank None at = 512
target_rank (Some t) at = at t

-- the least rank among the rows that follow
abbrev pub rank_ahead : Fields → ℕ → (ℕ → ℕ) → ℕ
rank_ahead f i at = min (target_rank f.target at) (cond (goes_on f) (at (i + 1)) 512)

-- the rank that a row gets from those of the rows that follow
abbrev pub row_rank : Fields → ℕ → ℕ → (ℕ → ℕ) → ℕ
row_rank f i v at = cond (row_reads f v) 0 (cond (row_sets f v) 512 (rank_ahead f i at + 1))

-- a row with a known rank reads the number, or keeps it and is followed by one of a lower rank
abbrev pub Led : List Fields → ℕ → List ℕ → ℕ → Type 0
Led rows v ranks i =
    (reads rows i v ≡ true) ⊎ ((sets rows i v ≡ false) × ((j : ℕ) × (follows rows i j ≡ true) × (rank ranks j < rank ranks i)))

-- ranks that lead to a row that reads v; they stay below the number of rows that have one, so no way is longer than 512 rows
pub record Ranked (rows : List Fields) (v : ℕ) (ranks : List ℕ) : Type 0 where
  pub most : (i : ℕ) → rank ranks i ≤ 512
  pub led : (i : ℕ) → rank ranks i < 512 → Led rows v ranks i
  pub counted : (i : ℕ) → rank ranks i < 512 → rank ranks i < count (known ranks) 512

-- the rank of row i is no more than the row and those that follow it ask for
pub record Level (rows : List Fields) (v : ℕ) (ranks : List ℕ) (i : ℕ) : Type 0 where
  pub at_read : reads rows i v ≡ true → rank ranks i ≡ 0
  pub at_kept : (j : ℕ) → sets rows i v ≡ false → follows rows i j ≡ true → rank ranks i ≤ rank ranks j + 1

unfoldable pub sum_of : List ℕ → ℕ
sum_of [] = 0
sum_of (r ∷ ranks) = r + sum_of ranks
