use Rattle.std.proofs.Common.{◌≡◌, ℕ, ◌<◌, ◌≤◌, length, get_or}
use Rattle.views.specs.Groups.{group_at, renamed}
use Rattle.views.proofs.merge_table.unite.Given as goal

-- the names before the index are renamed, the others as they were
abbrev pub invariant-loop-name : goal.invariant-loop-name
invariant-loop-name l =
    (length l.name-items ≡ 512)
    × ((k : ℕ) → k < l.name-index → get_or l.name-items k k ≡ renamed (group_at l.fn.to) l.high l.low k)
    × ((k : ℕ) → l.name-index ≤ k → get_or l.name-items k k ≡ get_or l.fn.to k k)
