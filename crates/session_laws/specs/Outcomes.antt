-- What comes of each call, by the rules: the conditions are checked in the order in which they stand. Assumes nothing.
use Rattle.std.specs.Prelude.{◌≡◌, ℕ, Bool, cond, not, ◌&&◌, ◌||◌, length, ◌==◌, nat_lt, refl}
use Rattle.graph.specs.Counting.{any}
use Rattle.session_laws.specs.Base.{Base, fixed}
use Rattle.session_laws.specs.State.{State, standing_graph, degree_in, is_loose, move_at, has_pending, holds_temporary}
use Rattle.session_laws.specs.Tests.{may_merge}
use Rattle.session_laws.specs.Calls.{Call, Outcome, note, mark, simplify, freeze, push, merge, colour, refused, noted, marked, simplified, frozen, pushed, together, apart, merged, coloured}
use Rattle.session_laws.specs.Colouring.{register_of}

-- whether some loose vertex stands that passes
abbrev pub some_loose : Base → State → (ℕ → Bool) → Bool
some_loose b s passes = any (λ v. let p = passes v in is_loose b s v && p) b.graph.size

-- a vertex is asked for by its number: 13, then 14 unless it stands in the standing graph
abbrev pub at_vertex : Base → State → ℕ → Outcome → Outcome
at_vertex b s v answer = cond (nat_lt v b.graph.size) (cond ((standing_graph b s).stands v) answer (refused 14)) (refused 13)

-- most moves that a session notes
abbrev pub most_moves : ℕ
most_moves = 128

-- least bytes in a row of marks and in a table of registers
abbrev pub least_bytes : ℕ
least_bytes = 512

abbrev pub low_degree : Base → State → ℕ → Bool
low_degree b s v = nat_lt (degree_in b s v) b.registers

abbrev pub note_outcome : Base → State → ℕ → ℕ → Outcome
note_outcome b s u v =
    cond (nat_lt u b.graph.size && nat_lt v b.graph.size)
    (cond ((standing_graph b s).stands u && (standing_graph b s).stands v)
    (cond (nat_lt (length s.moves) most_moves) (noted (length s.moves) u v) (refused 16))
    (refused 14))
    (refused 13)

abbrev pub mark_outcome : Base → State → ℕ → Outcome
mark_outcome b s v = at_vertex b s v (marked v)

abbrev pub simplify_outcome : Base → State → ℕ → Outcome
simplify_outcome b s v =
    at_vertex b s v (cond ((not (fixed b v) && low_degree b s v) && not (has_pending s v)) (simplified v) (refused 17))

abbrev pub freeze_outcome : Base → State → ℕ → Outcome
freeze_outcome b s v =
    at_vertex b s v (cond ((not (fixed b v) && low_degree b s v) && has_pending s v) (frozen v) (refused 17))

abbrev pub push_outcome : Base → State → ℕ → Outcome
push_outcome b s v =
    at_vertex b s v
    (cond ((not (fixed b v) && not (some_loose b s (low_degree b s))) && not (holds_temporary b s v)) (pushed v) (refused 17))

-- what becomes of a pending move whose ends are u and v; x and y are the names of their groups
abbrev pub settled : Base → State → ℕ → ℕ → ℕ → ℕ → ℕ → Outcome
settled b s m u v x y =
    let merging = cond (may_merge (fixed b) b.registers (standing_graph b s) x y) (merged m u v) (refused 17) in
    cond (x == y) (together m)
    (cond ((standing_graph b s).joined x y || (fixed b x && fixed b y)) (apart m) merging)

abbrev pub merge_outcome : Base → State → ℕ → ℕ → Outcome
merge_outcome b s m marks =
    let u = (move_at s m).one in
    let v = (move_at s m).other in
    let decided = settled b s m u v (s.table u) (s.table v) in
    cond (nat_lt marks least_bytes) (refused 2)
    (cond (nat_lt m (length s.moves)) (cond (move_at s m).pending decided (refused 17)) (refused 13))

abbrev pub colour_outcome : Base → State → ℕ → Outcome
colour_outcome b s table =
    cond (nat_lt table least_bytes) (refused 2)
    (cond (any (is_loose b s) b.graph.size) (refused 18) (coloured (register_of b s)))

unfoldable pub outcome : Base → State → Call → Outcome
outcome b s (note u v) = note_outcome b s u v
outcome b s (mark v) = mark_outcome b s v
outcome b s (simplify v) = simplify_outcome b s v
outcome b s (freeze v) = freeze_outcome b s v
outcome b s (push v) = push_outcome b s v
outcome b s (merge m marks) = merge_outcome b s m marks
outcome b s (colour table) = colour_outcome b s table

pub outcome_note : (b : Base) (s : State) (u v : ℕ) → outcome b s (note u v) ≡ note_outcome b s u v
unfolding outcome
outcome_note b s u v = refl

pub outcome_mark : (b : Base) (s : State) (v : ℕ) → outcome b s (mark v) ≡ mark_outcome b s v
unfolding outcome
outcome_mark b s v = refl

pub outcome_simplify : (b : Base) (s : State) (v : ℕ) → outcome b s (simplify v) ≡ simplify_outcome b s v
unfolding outcome
outcome_simplify b s v = refl

pub outcome_freeze : (b : Base) (s : State) (v : ℕ) → outcome b s (freeze v) ≡ freeze_outcome b s v
unfolding outcome
outcome_freeze b s v = refl

pub outcome_push : (b : Base) (s : State) (v : ℕ) → outcome b s (push v) ≡ push_outcome b s v
unfolding outcome
outcome_push b s v = refl

pub outcome_merge : (b : Base) (s : State) (m marks : ℕ) → outcome b s (merge m marks) ≡ merge_outcome b s m marks
unfolding outcome
outcome_merge b s m marks = refl

pub outcome_colour : (b : Base) (s : State) (table : ℕ) → outcome b s (colour table) ≡ colour_outcome b s table
unfolding outcome
outcome_colour b s table = refl
