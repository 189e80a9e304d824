-- The digits of words.
use Rattle.std.specs.Prelude.{ℕ, ◌/◌, ◌%◌, ◌^◌, Bool, List, ◌==◌, slice_index}

-- whether the binary digit at k of a word is set
unfoldable pub bit : ℕ → ℕ → Bool
bit w k = w / 2 ^ k % 2 == 1

-- whether k is a member of a row of words: each word holds 64 numbers
unfoldable pub member : List ℕ → ℕ → Bool
member ws k = bit (slice_index ws (k / 64)) (k % 64)
