-- What holds in every state that a session can reach. Assumes nothing.
use Rattle.std.specs.Prelude.{◌≡◌, ℕ, ◌<◌, ◌≤◌, Bool, true, false, not, ◌&&◌, List, [], ◌∷◌, length}
use Rattle.graph.specs.Counting.{count}
use Rattle.graph.specs.Shape.{Shape}
use Rattle.session_laws.specs.Base.{Base, fixed}
use Rattle.session_laws.specs.State.{State, listed, merged_graph, standing_graph, move_at, holds_temporary}
use Rattle.session_laws.specs.Outcomes.{most_moves}

-- no vertex stands twice in the list
abbrev pub Distinct : List ℕ → Type 0
Distinct [] = Unit {0}
Distinct (v ∷ vs) = (listed vs v ≡ false) × Distinct vs

pub record SoundState (b : Base) (s : State) : Type 0 where
  -- the table maps each number to one no greater, which maps to itself
  pub lowers : (v : ℕ) → s.table v ≤ v
  pub settles : (v : ℕ) → s.table (s.table v) ≡ s.table v
  -- it keeps the session's vertices among themselves; fixed vertices and other numbers map to themselves
  pub inside : (v : ℕ) → b.graph.stands v ≡ true → b.graph.stands (s.table v) ≡ true
  pub outside : (v : ℕ) → b.graph.stands v ≡ false → s.table v ≡ v
  pub own : (v : ℕ) → fixed b v ≡ true → s.table v ≡ v
  -- only names of groups are removed, and none that is fixed
  pub removed_name : (v : ℕ) → listed s.removed v ≡ true → s.table v ≡ v
  pub removed_vertex : (v : ℕ) → listed s.removed v ≡ true → b.graph.stands v ≡ true
  pub removed_loose : (v : ℕ) → listed s.removed v ≡ true → fixed b v ≡ false
  pub removed_once : Distinct s.removed
  -- the groups of a pending move stand
  pub one_stands : (m : ℕ) → (move_at s m).pending ≡ true → (standing_graph b s).stands (s.table (move_at s m).one) ≡ true
  pub other_stands : (m : ℕ) → (move_at s m).pending ≡ true → (standing_graph b s).stands (s.table (move_at s m).other) ≡ true
  -- no two of a group are joined
  pub apart_within : (u v : ℕ) → s.table u ≡ s.table v → b.graph.joined u v ≡ false
  pub few_moves : length s.moves ≤ most_moves

-- each of a list, last removed first, is joined to fewer than k vertices that were not removed before it
abbrev pub LightList : ℕ → Shape → List ℕ → Type 0
LightList k g [] = Unit {0}
LightList k g (v ∷ vs) = (count (λ w. g.joined v w && not (listed vs w)) g.size < k) × LightList k g vs

-- what holds besides as long as nothing is pushed: each removed group had a register to spare
abbrev pub AllLight : Base → State → Type 0
AllLight b s = LightList b.registers (merged_graph b s) s.removed

-- each of a list that passes is joined to fewer than k vertices that were not removed before it
abbrev pub SpareList : (ℕ → Bool) → ℕ → Shape → List ℕ → Type 0
SpareList passes k g [] = Unit {0}
SpareList passes k g (v ∷ vs) = (passes v ≡ true → count (λ w. g.joined v w && not (listed vs w)) g.size < k) × SpareList passes k g vs

-- each removed group with a temporary had a register to spare, whatever was pushed
abbrev pub SparesTemporaries : Base → State → Type 0
SparesTemporaries b s = SpareList (holds_temporary b s) b.registers (merged_graph b s) s.removed
