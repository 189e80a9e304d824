-- Rows of sets of numbers, one set for each row of code, and how far they are from what is live.
use Rattle.std.specs.Prelude.{◌≡◌, ℕ, ◌+◌, Bool, true, false, cond, not, ◌&&◌, ◌||◌, List, [], ◌∷◌, Some, None, Option}
use Rattle.std.specs.List.{slice_get}
use Rattle.code.specs.Rows.{Fields}
use Rattle.numbers.specs.Counting.{count}
use Rattle.numbers.specs.Sets.{has}
use Rattle.numbers.specs.declared.number_set.NumberSet.{NumberSet}
use Rattle.liveness.specs.Flow.{passes, goes_on, reads, sets, follows}
use Rattle.liveness.specs.Live.{LiveBefore}

abbrev pub member : Option NumberSet → ℕ → Bool
member None v = false
member (Some s) v = has s v

-- whether v is in the set for row i; past the last set there is an empty one
unfoldable pub in_set : List NumberSet → ℕ → ℕ → Bool
in_set family i v = member (slice_get family i) v

-- a test of the row that a field names
abbrev pub target_passes : Option ℕ → (ℕ → Bool) → Bool
target_passes None test = false
target_passes (Some t) test = test t

-- whether a row that follows this one passes the test
abbrev pub row_ahead : Fields → ℕ → (ℕ → Bool) → Bool
row_ahead f i test = target_passes f.target test || cond (goes_on f) (test (i + 1)) false

unfoldable pub ahead : List Fields → ℕ → (ℕ → Bool) → Bool
ahead rows i test = passes (slice_get rows i) (λ f. row_ahead f i test)

-- what the row reads, and what is in the set of a following row and not set by this one
unfoldable pub asked : List Fields → List NumberSet → ℕ → ℕ → Bool
asked rows family i v = reads rows i v || (ahead rows i (λ j. in_set family j v) && not (sets rows i v))

-- every member is live before its row
abbrev pub Sound : List Fields → List NumberSet → Type 0
Sound rows family = (i v : ℕ) → in_set family i v ≡ true → LiveBefore rows i v

-- the set of row i has all that the row and the sets of following rows ask for
pub record Closed (rows : List Fields) (family : List NumberSet) (i : ℕ) : Type 0 where
  pub has_read : (v : ℕ) → reads rows i v ≡ true → in_set family i v ≡ true
  pub has_later : (j v : ℕ) → sets rows i v ≡ false → follows rows i j ≡ true → in_set family j v ≡ true → in_set family i v ≡ true

-- how many numbers below 512 are missing in all sets together
unfoldable pub lacking : List NumberSet → ℕ
lacking [] = 0
lacking (s ∷ family) = count (λ k. not (has s k)) 512 + lacking family
