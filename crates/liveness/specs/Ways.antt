-- Ways: the rows on a path from a row to one that reads a number, with no row before that one setting it.
use Rattle.std.specs.Prelude.{◌≡◌, ℕ, ◌<◌, ◌≤◌, true, false, List, [], ◌∷◌, length}
use Rattle.code.specs.Rows.{Fields}
use Rattle.liveness.specs.Flow.{reads, sets, follows}
use Rattle.liveness.specs.Live.{LiveBefore}

-- a way from row i to a row that reads v
pub data Way (rows : List Fields) (v : ℕ) : ℕ → List ℕ → Type 0 where
  arrives : {i : ℕ} → reads rows i v ≡ true → Way rows v i (i ∷ [])
  goes : {i j : ℕ} {rest : List ℕ} → sets rows i v ≡ false → follows rows i j ≡ true → Way rows v j rest → Way rows v i (i ∷ rest)

-- a way from the first row than which none is shorter
pub record Shortest (rows : List Fields) (v : ℕ) (way : List ℕ) : Type 0 where
  pub leads : Way rows v 0 way
  pub least : (other : List ℕ) → Way rows v 0 other → length way ≤ length other

-- the lowest value, a number of 32 or more, that is live before the first row
pub record LowestUndefined (rows : List Fields) (v : ℕ) : Type 0 where
  pub value : 32 ≤ v
  pub live : LiveBefore rows 0 v
  pub lowest : (u : ℕ) → 32 ≤ u → u < v → LiveBefore rows 0 u → ⊥
