-- What a `Liveness` means: the numbers that it has as live before and after each row.
use Rattle.std.specs.Prelude.{ℕ, Bool, Option}
use Rattle.numbers.specs.Counting.{first}
use Rattle.liveness.specs.Families.{in_set}
use Rattle.liveness.specs.declared.liveness.Liveness.{Liveness}

abbrev pub before_of : Liveness → ℕ → ℕ → Bool
before_of found = in_set found.before

abbrev pub after_of : Liveness → ℕ → ℕ → Bool
after_of found = in_set found.after

-- the lowest value that is live before the first row; values are the 480 numbers from 32 on
abbrev pub undefined_in : Liveness → Option ℕ
undefined_in found = first (before_of found 0) 32 480
