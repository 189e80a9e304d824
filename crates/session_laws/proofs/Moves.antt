-- Which moves are pending. Assumes nothing.
use Rattle.std.proofs.Common.{◌≡◌, ℕ, ◌+◌, ◌<◌, true, false, cond, ◌||◌, eqb, ◌⊎◌, List, [], ◌∷◌, ◌++◌, length, get_or, sym, ap, ◌∙◌, inl, inr, arith}
use Rattle.std.proofs.lemmas.Bool.{cases_Bool, cases_eq, cases_lt, or_parts, eqb-false, false≢true}
use Rattle.std.proofs.lemmas.List.{get_or-set_same, get_or-set_other, get_or_past, get_or-map, get_or_append_left, get_or_push, length-map, length_push}
use Rattle.session_laws.specs.State.{Move, State, no_move, move_at, waits, has_pending}
use Rattle.session_laws.specs.Runs.{closed, closing, closing_all}
use Rattle.session_laws.proofs.Counts.{any_nowhere, second_fails}

pub pending_noted : (ms : List Move) (m : ℕ) → (get_or ms m no_move).pending ≡ true → m < length ms
pending_noted ms m h = elim (cases_lt m (length ms)) [
  | inl e ↦ e
  | inr e ↦ absurd (false≢true (sym (ap (λ (x : Move). x.pending) (get_or_past ms m no_move e)) ∙ h))
]

-- a move that is pending after another was noted
pub noted_pending : (ms : List Move) (new : Move) (m : ℕ) → (get_or (ms ++ new ∷ []) m no_move).pending ≡ true →
    (get_or (ms ++ new ∷ []) m no_move ≡ get_or ms m no_move) ⊎ (get_or (ms ++ new ∷ []) m no_move ≡ new)
noted_pending ms new m h = elim (cases_lt m (length ms)) [
  | inl e ↦ inl (get_or_append_left ms (new ∷ []) no_move m e)
  | inr e ↦
      let low : m < length (ms ++ new ∷ []) = pending_noted (ms ++ new ∷ []) m h in
      let more : length (ms ++ new ∷ []) ≡ length ms + 1 = length_push ms new in
      let same : length ms ≡ m = omega arith in
      inr (get_or_push ms new no_move m same)
]

-- a move that is pending after the one numbered m was closed
pub closing_pending : (s : State) (m i : ℕ) → m < length s.moves → (get_or (closing s m) i no_move).pending ≡ true →
    (i ≡ m → ⊥) × (get_or (closing s m) i no_move ≡ move_at s i)
closing_pending s m i low h = elim (cases_eq i m) [
  | inl same ↦ absurd (
      let e : get_or (closing s m) i no_move ≡ closed (move_at s m) = rw same (get_or-set_same s.moves m (closed (move_at s m)) no_move low) in
      false≢true (sym (ap (λ (x : Move). x.pending) e) ∙ h))
  | inr other ↦ (other, get_or-set_other s.moves m i (closed (move_at s m)) no_move other)
]

-- a move that is pending after those of the group v were closed
pub closing_all_pending : (s : State) (v i : ℕ) → (get_or (closing_all s v) i no_move).pending ≡ true →
    (waits s.table v (move_at s i) ≡ false) × (get_or (closing_all s v) i no_move ≡ move_at s i)
closing_all_pending s v i h =
    let low : i < length (closing_all s v) = pending_noted (closing_all s v) i h in
    let same : length (closing_all s v) ≡ length s.moves = length-map s.moves _ in
    let here : get_or (closing_all s v) i no_move ≡ cond (waits s.table v (move_at s i)) (closed (move_at s i)) (move_at s i) =
    get_or-map _ s.moves i no_move no_move (omega arith) in
    elim (cases_Bool (waits s.table v (move_at s i))) [
      | inl w ↦ absurd (
          let e : get_or (closing_all s v) i no_move ≡ closed (move_at s i) = rw w at here in
          false≢true (sym (ap (λ (x : Move). x.pending) e) ∙ h))
      | inr w ↦ (w, rw w at here)
    ]

-- a pending move that does not wait has its ends in other groups
pub ends_elsewhere : (table : ℕ → ℕ) (v : ℕ) (m : Move) → m.pending ≡ true → waits table v m ≡ false →
    (table m.one ≡ v → ⊥) × (table m.other ≡ v → ⊥)
ends_elsewhere table v m h w =
    let p = or_parts (eqb (table m.one) v) (eqb (table m.other) v) (second_fails m.pending (eqb (table m.one) v || eqb (table m.other) v) w h) in
    (eqb-false _ _ p.0, eqb-false _ _ p.1)

-- without a pending move of v, none waits
pub none_waits : (s : State) (v m : ℕ) → has_pending s v ≡ false → m < length s.moves → waits s.table v (move_at s m) ≡ false
none_waits s v m h low = any_nowhere (λ i. waits s.table v (move_at s i)) (length s.moves) h m low
