-- What the groups that were taken away mean. Assumes nothing.
use Rattle.std.specs.Prelude.{ℕ, List, drop}
use Rattle.kept.specs.declared.removed.Removed.{Removed}

-- the last taken away first
unfoldable pub groups_in : Removed → List ℕ
groups_in r = drop r.top r.groups
