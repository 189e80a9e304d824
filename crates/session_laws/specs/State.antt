-- What a session remembers, and the graphs that it stands for. Assumes nothing.
use Rattle.std.specs.Prelude.{ℕ, Bool, false, ◌&&◌, ◌||◌, List, [], ◌∷◌, length, ◌==◌, slice_index_or}
use Rattle.graph.specs.Counting.{any}
use Rattle.graph.specs.Shape.{Shape, degree}
use Rattle.graph.specs.Views.{merged_view, removed_view}
use Rattle.session_laws.specs.Base.{Base, fixed}
use Rattle.session_laws.specs.Emptying.{CanBeEmptied, loose}

-- A move is a copy in the program: its ends would best share a register. It is pending until it is decided or given up.
pub record Move : Type 0 where
  pub one : ℕ
  pub other : ℕ
  pub pending : Bool

-- table is the merge table: it maps each vertex to the name of its group. removed has the last removed first.
-- A temporary is a vertex that holds a value for one row only; spilling it again would gain nothing.
pub record State : Type 0 where
  pub table : ℕ → ℕ
  pub removed : List ℕ
  pub moves : List Move
  pub temporary : ℕ → Bool

abbrev pub opened : State
opened = record { table = λ v. v; removed = []; moves = []; temporary = λ _. false }

abbrev pub listed : List ℕ → ℕ → Bool
listed [] v = false
listed (x ∷ xs) v = x == v || listed xs v

-- one vertex for each group, whether removed or not
abbrev pub merged_graph : Base → State → Shape
merged_graph b s = merged_view s.table b.graph

-- the groups that are not yet removed: the graph that the calls speak of
abbrev pub standing_graph : Base → State → Shape
standing_graph b s = removed_view (listed s.removed) (merged_graph b s)

abbrev pub degree_in : Base → State → ℕ → ℕ
degree_in b s v = degree (standing_graph b s) v

abbrev pub is_loose : Base → State → ℕ → Bool
is_loose b s v = loose (fixed b) (standing_graph b s) v

abbrev pub Emptiable : Base → State → Type 0
Emptiable b s = CanBeEmptied (fixed b) b.registers (standing_graph b s)

-- what stands at a number that no move has
abbrev pub no_move : Move
no_move = record { one = 0; other = 0; pending = false }

abbrev pub move_at : State → ℕ → Move
move_at s m = slice_index_or s.moves m no_move

-- whether a move is pending and has an end in the group v
abbrev pub waits : (ℕ → ℕ) → ℕ → Move → Bool
waits table v m = m.pending && (table m.one == v || table m.other == v)

-- whether the group v has a pending move
abbrev pub has_pending : State → ℕ → Bool
has_pending s v = any (λ m. waits s.table v (move_at s m)) (length s.moves)

-- whether a member of the group v is a temporary
abbrev pub holds_temporary : Base → State → ℕ → Bool
holds_temporary b s v = any (λ w. s.temporary w && s.table w == v) b.graph.size
