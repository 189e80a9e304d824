-- Rows of moves that change: for code that keeps the moves in an array. Assumes nothing.
use Rattle.std.proofs.Common.{◌≡◌, ℕ, zero, suc, ◌+◌, ◌<◌, List, [], ◌∷◌, ◌++◌, map, length, get_or, take, set, sym, refl, ap, ◌∙◌}
use Rattle.std.proofs.lemmas.List.{take_more_set, map_push, map-set}
use Rattle.session_laws.specs.State.{Move, move_at}
use Rattle.session_laws.specs.Runs.{closed}
use Rattle.kept.specs.Moves.{moves_of, moves_in, move_of}
use Rattle.kept.specs.Kept.{state_of}
use Rattle.kept.specs.declared.kept.Kept.{Kept}
use Rattle.kept.specs.declared.moves.Move.{Move as Row}
use Rattle.kept.proofs.Facts.{move_is}
use Rattle.kept.proofs.Rows.{no_row}

-- one more
pub moves_more : (rows : List Row) (n : ℕ) (row : Row) → n < length rows → moves_of (set rows n row) (n + 1) ≡ moves_of rows n ++ move_of row ∷ []
unfolding moves_of
moves_more rows n row l = ap (map move_of) (take_more_set rows n row l) ∙ map_push move_of (take n rows) row

take_set_in : {X : Type 0} (xs : List X) (n m : ℕ) (x : X) → take n (set xs m x) ≡ set (take n xs) m x
take_set_in [] zero m x = refl
take_set_in [] (suc n) m x = refl
take_set_in (y ∷ ys) zero zero x = refl
take_set_in (y ∷ ys) zero (suc m) x = refl
take_set_in (y ∷ ys) (suc n) zero x = refl
take_set_in (y ∷ ys) (suc n) (suc m) x = ap (λ (zs : List _). y ∷ zs) (take_set_in ys n m x)

-- one changed
pub moves_set : (rows : List Row) (n m : ℕ) (row : Row) → moves_of (set rows m row) n ≡ set (moves_of rows n) m (move_of row)
unfolding moves_of
moves_set rows n m row = ap (map move_of) (take_set_in rows n m row) ∙ map-set move_of (take n rows) m row

-- one closed
pub closed_one : (k : Kept) (m : ℕ) (row : Row) → m < k.moves.many → move_of row ≡ closed (move_of (get_or k.moves.moves m no_row)) →
    moves_of (set k.moves.moves m row) k.moves.many ≡ set (state_of k).moves m (closed (move_at (state_of k) m))
unfolding state_of moves_in moves_of
closed_one k m row low is =
    moves_set k.moves.moves k.moves.many m row ∙
    ap (λ (x : Move). set (moves_of k.moves.moves k.moves.many) m x) (is ∙ sym (ap closed (move_is k m no_row low)))
