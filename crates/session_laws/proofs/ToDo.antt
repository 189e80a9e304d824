-- A granted step leaves fewer loose vertices or fewer pending moves. Assumes nothing.
use Rattle.std.proofs.Common.{◌≡◌, ℕ, ◌+◌, ◌<◌, ◌≤◌, min, max, true, not, eqb, List, [], ◌∷◌, ◌++◌, length, get_or, sym, add-one, arith}
use Rattle.std.proofs.lemmas.Bool.{cond_both, and_parts, and_from, or_parts, eqb-false, both_ways, not_from_false}
use Rattle.std.proofs.lemmas.List.{length_push, length-set, length-map, get_or_append_left}
use Rattle.graph.specs.Counting.{count}
use Rattle.graph.specs.Shape.{Shape}
use Rattle.graph.specs.Views.{removed_view, merged_view}
use Rattle.session_laws.specs.Base.{Base, SoundBase, fixed}
use Rattle.session_laws.specs.Emptying.{loose}
use Rattle.session_laws.specs.State.{Move, State, no_move, listed, merged_graph, standing_graph, is_loose, move_at, waits, has_pending}
use Rattle.session_laws.specs.Calls.{Outcome, refused, noted, marked, simplified, frozen, pushed, together, apart, merged, coloured}
use Rattle.session_laws.specs.Grounds.{GrantedOn}
use Rattle.session_laws.specs.Runs.{left_by, united, closing, closing_all, closed}
use Rattle.session_laws.specs.Invariants.{SoundState}
use Rattle.session_laws.specs.Groups.{step, note_granted}
use Rattle.session_laws.specs.Steps.{left_to_do}
use Rattle.session_laws.proofs.Counts.{any_found, count_mono, but, but_from, count_less}
use Rattle.session_laws.proofs.Emptied.{standing_merging}
use Rattle.session_laws.proofs.Moves.{closing_pending, closing_all_pending}
use Rattle.session_laws.proofs.Pairs.{Groups, groups_of}
use Rattle.session_laws.proofs.Standing.{stands_from, kept_stands, keep_stands, loose_inside}

-- how many vertices of a graph of the session are loose
abbrev loose_in : Base → Shape → ℕ
loose_in b t = count (loose (fixed b) t) b.graph.size

abbrev pending_in : List Move → ℕ
pending_in ms = count (λ m. (get_or ms m no_move).pending) (length ms)

-- one more move
noted_more : (ms : List Move) (new : Move) → pending_in (ms ++ new ∷ []) ≤ pending_in ms + 1
noted_more ms new =
    let more : length (ms ++ new ∷ []) ≡ length ms + 1 = length_push ms new in
    let below : count (λ m. (get_or (ms ++ new ∷ []) m no_move).pending) (length ms) ≤ pending_in ms =
    count_mono _ _ (length ms) (λ m h e. rw (get_or_append_left ms (new ∷ []) no_move m h) at e) in
    rw (more, add-one (length ms))
    (cond_both {A = ℕ} (get_or (ms ++ new ∷ []) (length ms) no_move).pending 1 0
    (λ x. count (λ m. (get_or (ms ++ new ∷ []) m no_move).pending) (length ms) + x ≤ pending_in ms + 1) (λ _. omega arith) (λ _. omega arith))

closing_less : (s : State) (m : ℕ) → m < length s.moves → pending_in (closing s m) ≤ pending_in s.moves
closing_less s m low =
    let same : length (closing s m) ≡ length s.moves = length-set s.moves m (closed (move_at s m)) in
    rw same (count_mono _ _ (length s.moves) (λ i _ e. rw (closing_pending s m i low e).1 at e))

closing_all_less : (s : State) (v : ℕ) → pending_in (closing_all s v) ≤ pending_in s.moves
closing_all_less s v =
    let same : length (closing_all s v) ≡ length s.moves = length-map s.moves _ in
    rw same (count_mono _ _ (length s.moves) (λ i _ e. rw (closing_all_pending s v i e).1 at e))

-- freezing closes a move
closing_one : (s : State) (v : ℕ) → has_pending s v ≡ true → pending_in (closing_all s v) + 1 ≤ pending_in s.moves
closing_one s v h =
    let same : length (closing_all s v) ≡ length s.moves = length-map s.moves _ in
    let found = any_found (λ m. waits s.table v (move_at s m)) (length s.moves) h in
    let i : ℕ = found.0 in
    let was : (move_at s i).pending ≡ true = (and_parts (move_at s i).pending _ found.2).0 in
    let fewer : count (but (λ m. (move_at s m).pending) i) (length s.moves) + 1 ≤ pending_in s.moves =
    count_less (λ m. (move_at s m).pending) i (length s.moves) found.1 was in
    let less : count (λ m. (get_or (closing_all s v) m no_move).pending) (length s.moves) ≤
    count (but (λ m. (move_at s m).pending) i) (length s.moves) =
    count_mono _ _ (length s.moves) (λ m _ e.
    let p = closing_all_pending s v m e in
    but_from (λ m. (move_at s m).pending) i m (rw p.1 at e) (λ m=i. both_ways _ p.0 (rw m=i found.2))) in
    let all : pending_in (closing_all s v) ≡ count (λ m. (get_or (closing_all s v) m no_move).pending) (length s.moves) = rw same in
    omega arith

-- where each loose vertex of t was loose and is not v, there is one fewer
fewer_loose : (b : Base) → SoundBase b → (s : State) (t : Shape) (v : ℕ) → is_loose b s v ≡ true →
    ((w : ℕ) → loose (fixed b) t w ≡ true → (is_loose b s w ≡ true) × (w ≡ v → ⊥)) →
    loose_in b t + 1 ≤ loose_in b (standing_graph b s)
fewer_loose b sb s t v h was =
    let fewer : count (but (is_loose b s) v) b.graph.size + 1 ≤ loose_in b (standing_graph b s) =
    count_less (is_loose b s) v b.graph.size (loose_inside b sb s v h) h in
    let less : loose_in b t ≤ count (but (is_loose b s) v) b.graph.size =
    count_mono _ _ b.graph.size (λ w _ e. let p = was w e in but_from (is_loose b s) v w p.0 p.1) in
    omega arith

removed_fewer : (b : Base) → SoundBase b → (s : State) (v : ℕ) → is_loose b s v ≡ true →
    loose_in b (removed_view (listed (v ∷ s.removed)) (merged_graph b s)) + 1 ≤ loose_in b (standing_graph b s)
removed_fewer b sb s v h = fewer_loose b sb s (removed_view (listed (v ∷ s.removed)) (merged_graph b s)) v h (λ w e.
    let p = and_parts ((removed_view (listed (v ∷ s.removed)) (merged_graph b s)).stands w) (not (fixed b w)) e in
    let q = kept_stands (v ∷ s.removed) (merged_graph b s) w p.0 in
    let r = or_parts (eqb v w) (listed s.removed w) q.1 in
    (and_from _ _ (keep_stands s.removed (merged_graph b s) w q.0 r.1) p.1, λ i. eqb-false v w r.0 (sym i)))

united_fewer : (b : Base) → SoundBase b → (s : State) (u v x y : ℕ) → Groups b s u v x y →
    loose_in b (removed_view (listed s.removed) (merged_view (united s.table y x) b.graph)) + 1 ≤
    loose_in b (standing_graph b s)
united_fewer b sb s u v x y g =
    let t : Shape = removed_view (listed s.removed) (merged_view (united s.table y x) b.graph) in
    let m = standing_merging b sb s u v x y g in
    fewer_loose b sb s t y (and_from _ _ (stands_from b s y g.y_stands) (not_from_false _ g.y_loose)) (λ w e.
    let p = and_parts (t.stands w) (not (fixed b w)) e in
    let q = m.stood w p.0 in
    (and_from _ _ q.0 p.1, q.1))

pub less_to_do : (b : Base) → SoundBase b → (s : State) → SoundState b s → (o : Outcome) → GrantedOn b s o →
    step o + left_to_do b (left_by s o) ≤ left_to_do b s + note_granted o
unfolding left_by left_to_do
less_to_do b sb s ss (refused k) g = omega arith
less_to_do b sb s ss (noted m u v) g =
    let new : Move = record { one = u; other = v; pending = true } in
    let more : pending_in (s.moves ++ new ∷ []) ≤ pending_in s.moves + 1 = noted_more s.moves new in
    omega arith
less_to_do b sb s ss (marked v) g = omega arith
less_to_do b sb s ss (simplified v) g =
    let fewer : loose_in b (removed_view (listed (v ∷ s.removed)) (merged_graph b s)) + 1 ≤ loose_in b (standing_graph b s) =
    removed_fewer b sb s v g.stays_loose in
    omega arith
less_to_do b sb s ss (frozen v) g =
    let less : pending_in (closing_all s v) + 1 ≤ pending_in s.moves = closing_one s v g.waits_so in omega arith
less_to_do b sb s ss (pushed v) g =
    let fewer : loose_in b (removed_view (listed (v ∷ s.removed)) (merged_graph b s)) + 1 ≤ loose_in b (standing_graph b s) =
    removed_fewer b sb s v g.stays_loose in
    let less : pending_in (closing_all s v) ≤ pending_in s.moves = closing_all_less s v in
    omega arith
less_to_do b sb s ss (together m) g =
    let less : pending_in (closing s m) ≤ pending_in s.moves = closing_less s m g.is_open.is_noted in omega arith
less_to_do b sb s ss (apart m) g =
    let less : pending_in (closing s m) ≤ pending_in s.moves = closing_less s m g.is_open.is_noted in omega arith
less_to_do b sb s ss (merged m u v) g =
    let x : ℕ = min (s.table u) (s.table v) in
    let y : ℕ = max (s.table u) (s.table v) in
    let less : pending_in (closing s m) ≤ pending_in s.moves = closing_less s m g.is_open.is_noted in
    let fewer : loose_in b (removed_view (listed s.removed) (merged_view (united s.table y x) b.graph)) + 1 ≤
    loose_in b (standing_graph b s) = united_fewer b sb s u v x y (groups_of b sb s ss m u v g) in
    omega arith
less_to_do b sb s ss (coloured register) g = omega arith
