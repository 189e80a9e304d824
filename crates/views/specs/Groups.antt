-- Merge tables: which group each number is in, by the name of the group. Assumes nothing.
use Rattle.std.specs.Prelude.{ℕ, min, max, Bool, cond, ◌&&◌, List, ◌==◌, nat_le, nat_lt, slice_index_or}

-- the name of the group that v is in; a number past the end is alone
abbrev pub group_at : List ℕ → ℕ → ℕ
group_at to v = slice_index_or to v v

-- a name is no greater than its members, and is in its own group
abbrev pub settled_at : (ℕ → ℕ) → ℕ → Bool
settled_at table v = nat_le (table v) v && table (table v) == table v

-- every member of the group called `high` goes into the one called `low`
abbrev pub renamed : (ℕ → ℕ) → ℕ → ℕ → ℕ → ℕ
renamed table high low w = cond (table w == high) low (table w)

-- the groups of u and v become one, called by the lower of the two names
abbrev pub united : (ℕ → ℕ) → ℕ → ℕ → ℕ → ℕ
united table u v = renamed table (max (table u) (table v)) (min (table u) (table v))

-- the same where both numbers have a place in the table; else nothing changes
abbrev pub merged_groups : (ℕ → ℕ) → ℕ → ℕ → ℕ → ℕ
merged_groups table u v w = cond (nat_lt u 512 && nat_lt v 512) (united table u v w) (table w)
