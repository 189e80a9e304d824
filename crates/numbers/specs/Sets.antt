-- What a set of numbers means: its members. The definition is shut, and every contract speaks of `has` alone.
use Rattle.std.specs.Prelude.{ℕ, Bool}
use Rattle.numbers.specs.Words.{member}
use Rattle.numbers.specs.declared.number_set.NumberSet.{NumberSet}

-- whether k is in the set: no number of 512 or more is, since a set has eight words
unfoldable pub has : NumberSet → ℕ → Bool
has s k = member s.words k
