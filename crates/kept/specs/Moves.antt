-- What a move and the moves that were noted mean. Assumes nothing.
use Rattle.std.specs.Prelude.{◌≡◌, ℕ, ◌<◌, ◌≤◌, cond, List, [], ◌∷◌, ◌++◌, map, take, length, Ok, Err, Result, Some, None, Option, slice_set, slice_index_or}
use Rattle.session_laws.specs.State.{Move, no_move, waits}
use Rattle.session_laws.specs.Runs.{closed}
use Rattle.kept.specs.declared.moves.Move.{Move as Row}
use Rattle.kept.specs.declared.noted.Noted.{Noted}
use Rattle.kept.specs.declared.refusal.Refusal.{Refusal}
use Rattle.kept.specs.declared.refusal.Refusal.TheVariants.{Full}

abbrev pub move_of : Row → Move
move_of m = record { one = m.one; other = m.other; pending = m.pending }

-- the first n of a row
unfoldable pub moves_of : List Row → ℕ → List Move
moves_of rows n = map move_of (take n rows)

-- in the order of their numbers
unfoldable pub moves_in : Noted → List Move
moves_in n = map move_of (take n.many n.moves)

-- what is found at the number m
abbrev pub Found : List Move → ℕ → Option Row → Type 0
Found moves m None = length moves ≤ m
Found moves m (Some row) = (m < length moves) × (move_of row ≡ slice_index_or moves m no_move)

-- a move is added and gets the next number, or there are 128
abbrev pub Added : Move → List Move → List Move → Result ℕ Refusal → Type 0
Added move before after (Ok m) = (length before < 128) × (m ≡ length before) × (after ≡ before ++ move ∷ [])
Added move before after (Err e) = (128 ≤ length before) × (e ≡ Full) × (after ≡ before)

-- the move numbered m is closed
abbrev pub closed_at : List Move → ℕ → List Move
closed_at moves m = slice_set moves m (closed (slice_index_or moves m no_move))

-- all pending ones of the group v are closed
abbrev pub closed_of : (ℕ → ℕ) → ℕ → List Move → List Move
closed_of table v moves = map (λ m. cond (waits table v m) (closed m) m) moves
