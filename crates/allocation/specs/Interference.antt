-- The pairs that a piece of code joins, as a list, and a graph into which they are joined. Assumes nothing.
use Rattle.std.specs.Prelude.{ℕ, zero, suc, Bool, false, cond, not, ◌&&◌, ◌||◌, List, [], ◌∷◌, ◌++◌, map, length, Some, None, Ok, Err, Option, Result, ◌==◌, nat_lt}
use Rattle.std.specs.List.{slice_get}
use Rattle.code.specs.Rows.{Fields}
use Rattle.graph.specs.Shape.{Meaning}
use Rattle.graph.specs.Joining.{join_answer, join_meaning}
use Rattle.graph.specs.declared.refusal.Refusal.{Refusal}
use Rattle.liveness.specs.Flow.{reads, sets}
use Rattle.liveness.specs.Families.{ahead}
use Rattle.liveness.specs.Joins.{moves}

-- whether some path of at most k rows, the one at place i the first, comes to a row that reads v before any row sets it
abbrev pub live_within : ℕ → List Fields → ℕ → ℕ → Bool
live_within zero rows i v = false
live_within (suc k) rows i v =
    let later = not (sets rows i v) && ahead rows i (λ j. live_within k rows j v) in
    reads rows i v || later

-- no path need come to a row twice, so as many rows as there are suffice
unfoldable pub live_before : List Fields → ℕ → ℕ → Bool
live_before rows i v = live_within (length rows) rows i v

unfoldable pub live_after : List Fields → ℕ → ℕ → Bool
live_after rows i v = ahead rows i (λ j. live_before rows j v)

-- whether the row at place i, which sets u, joins it to v: every other number that is live after the row, but for the source of a
-- move; two registers, the numbers below 32, are never joined
abbrev pub joins_at : List Fields → ℕ → ℕ → ℕ → Bool
joins_at rows i u v =
    let live = live_after rows i v in
    (not (u == v) && (not (moves rows i u v) && not (nat_lt u 32 && nat_lt v 32))) && live

pub record Edge : Type 0 where
  pub one : ℕ
  pub other : ℕ

abbrev pub edge : ℕ → ℕ → Edge
edge u v = record { one = u; other = v }

-- v alone, if it passes
abbrev pub cond_one : Bool → ℕ → List ℕ
cond_one passes v = cond passes (v ∷ []) []

-- the numbers below n that pass, rising
abbrev pub passing : (ℕ → Bool) → ℕ → List ℕ
passing p zero = []
passing p (suc n) = passing p n ++ cond_one (p n) n

abbrev pub destination_at : Option Fields → Option ℕ
destination_at None = None
destination_at (Some f) = f.destination

-- the pairs that a row joins which sets this number
abbrev pub edges_from : List Fields → ℕ → ℕ → Option ℕ → List Edge
edges_from rows n i None = []
edges_from rows n i (Some u) = map (edge u) (passing (joins_at rows i u) n)

-- the pairs of the row at place i, among numbers below n
unfoldable pub row_edges : List Fields → ℕ → ℕ → List Edge
row_edges rows n i = edges_from rows n i (destination_at (slice_get rows i))

-- the pairs of the first k rows
abbrev pub edges_below : List Fields → ℕ → ℕ → List Edge
edges_below rows n zero = []
edges_below rows n (suc k) = edges_below rows n k ++ row_edges rows n k

-- all pairs that the code joins, among numbers below n
unfoldable pub edges_of : List Fields → ℕ → List Edge
edges_of rows n = edges_below rows n (length rows)

-- A graph after pairs were joined in it one after the other, until one is refused.
pub record Filled : Type 0 where
  pub answer : Result (Unit {0}) Refusal
  pub left : Meaning

abbrev pub then_filled : Result (Unit {0}) Refusal → Meaning → Filled → Filled
then_filled (Ok x) m rest = rest
then_filled (Err e) m rest = record { answer = Err e; left = m }

abbrev pub filled : Meaning → List Edge → Filled
filled m [] = record { answer = Ok tt; left = m }
filled m (e ∷ es) =
    let next = join_meaning m e.one e.other in
    let rest = filled next es in
    then_filled (join_answer m e.one e.other) next rest
