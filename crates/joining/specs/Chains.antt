-- What a graph has become by joins alone. Assumes nothing.
use Rattle.std.specs.Prelude.{ℕ}

-- after some joins, each of which leaves what the graph's own `leaves` says
pub data JoinedOn {G : Type 0} (leaves : G → ℕ → ℕ → G → Type 0) : G → G → Type 0 where
  unchanged : {g : G} → JoinedOn leaves g g
  one_more : {g h k : G} (u v : ℕ) → JoinedOn leaves g h → leaves h u v k → JoinedOn leaves g k
