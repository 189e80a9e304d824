-- What an iterator over a set's members gives next.
use Rattle.std.specs.Prelude.{◌≡◌, ℕ, ◌+◌, ◌-◌, ◌<◌, ◌≤◌, Bool, true, ◌&&◌, Option, MatchOption, nat_lt}
use Rattle.numbers.specs.Counting.{first}
use Rattle.numbers.specs.Sets.{has}
use Rattle.numbers.specs.declared.members.Members.{Members}
use Rattle.numbers.specs.declared.number_set.NumberSet.{NumberSet}

-- the set that is gone through
abbrev pub source : Members → NumberSet
source m = m.set

-- the members below this number have been given
abbrev pub place : Members → ℕ
place m = m.from

-- a call gives the lowest member from its place on, and goes on behind it
abbrev pub Gives : Members → Option ℕ → Members → Type 0
Gives m r n =
    (source n ≡ source m) × (r ≡ first (has (source m)) (place m) (512 - place m))
    × MatchOption r (place n ≡ place m) (λ k. (place n ≡ k + 1) × (place m ≤ k) × (k < 512) × (has (source m) k ≡ true))

-- whether k is a member that has been given
abbrev pub given : Members → ℕ → Bool
given m k = has (source m) k && nat_lt k (place m)
