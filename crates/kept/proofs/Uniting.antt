-- A session after a merge. Assumes nothing.
use Rattle.std.proofs.Common.{◌≡◌, ℕ, ◌<◌, min, max, Bool, false, not, ◌&&◌, eqb, List, length, get_or, Some, None, Option, IsSome, sym, refl, ap, ◌∙◌, ap₂, arith}
use Rattle.std.proofs.lemmas.Bool.Decides.{nat_tests}
use Rattle.board.specs.Boards.{table_of, merged_graph as merged_in, TwoGroups}
use Rattle.board.specs.declared.board.Board.{Board}
use Rattle.session_laws.specs.State.{Move, standing_graph, merged_graph, listed, move_at}
use Rattle.session_laws.specs.Calls.{merged}
use Rattle.session_laws.specs.Grounds.{GrantedOn}
use Rattle.session_laws.specs.Runs.{left_by, united}
use Rattle.session_laws.proofs.Pairs.{Groups, groups_of}
use Rattle.session_laws.proofs.Rows.{stands_now}
use Rattle.session_laws.proofs.Standing.{name_from}
use Rattle.standing.specs.Standing.{board_of, is_left, base_of as base_under}
use Rattle.standing.specs.declared.standing.Standing.{Standing}
use Rattle.kept.specs.Moves.{move_of, moves_in, closed_at, Found}
use Rattle.kept.specs.Sound.{SoundKept, state_over}
use Rattle.kept.specs.Kept.{base_of, state_of}
use Rattle.kept.specs.declared.kept.Kept.{Kept}
use Rattle.kept.specs.declared.moves.Move.{Move as Row}
use Rattle.kept.specs.declared.noted.Noted.{Noted}
use Rattle.kept.proofs.After.{sound_after, state_same, still_left}
use Rattle.kept.proofs.Facts.{base_sound, state_sound, move_is}
use Rattle.kept.proofs.Rows.{no_row}

not_below : (j a b : Bool) → (j && (not a && not b)) ≡ false → a ≡ false → b ≡ false → j ≡ false
not_below j a b h ha hb = grind (arith, nat_tests)

turned : (s l e : Bool) → ((s && not l) && not e) ≡ ((s && not e) && not l)
turned s l e = grind (arith, nat_tests)

pub at_names : (b : Board) (low low' high high' : ℕ) → low ≡ low' → high ≡ high' → TwoGroups b low' high' → TwoGroups b low high
at_names b low low' high high' e f two = rw (e, f) two

-- the names of the groups of the ends, by the row of the move
pub ends_are : (k : Kept) (m x y : ℕ) → m < k.moves.many → x ≡ table_of (board_of k.standing) (get_or k.moves.moves m no_row).one →
    y ≡ table_of (board_of k.standing) (get_or k.moves.moves m no_row).other →
    (x ≡ (state_of k).table (move_at (state_of k) m).one) × (y ≡ (state_of k).table (move_at (state_of k) m).other)
unfolding state_of
ends_are k m x y low ex ey = (
  ex ∙ sym (ap (λ (z : Move). (state_of k).table z.one) (move_is k m no_row low)),
  ey ∙ sym (ap (λ (z : Move). (state_of k).table z.other) (move_is k m no_row low)),
)

-- the names of the groups of the ends of a move, lower and higher
pub ends_named : (k : Kept) (m : ℕ) (ends : Row) (x y low high : ℕ) → move_of ends ≡ move_at (state_of k) m → x ≡ table_of (board_of k.standing) ends.one →
    y ≡ table_of (board_of k.standing) ends.other → low ≡ min x y → high ≡ max x y →
    (low ≡ min ((state_of k).table (move_at (state_of k) m).one) ((state_of k).table (move_at (state_of k) m).other)) ×
    (high ≡ max ((state_of k).table (move_at (state_of k) m).one) ((state_of k).table (move_at (state_of k) m).other))
unfolding state_of
ends_named k m ends x y low high is ex ey el eh =
    let one : x ≡ (state_of k).table (move_at (state_of k) m).one = ex ∙ ap (λ (z : Move). (state_of k).table z.one) is in
    let other : y ≡ (state_of k).table (move_at (state_of k) m).other = ey ∙ ap (λ (z : Move). (state_of k).table z.other) is in
    (el ∙ ap₂ min one other, eh ∙ ap₂ max one other)

pub is_found : (moves : List Move) (m : ℕ) (r : Option Row) → m < length moves → Found moves m r → IsSome r
is_found moves m None low h = absurd (omega arith)
is_found moves m (Some row) low h = refl

module _ (k : Kept) (m u v : ℕ) (granted : GrantedOn (base_of k) (state_of k) (merged m u v)) where
  abbrev x : ℕ
  x = min ((state_of k).table u) ((state_of k).table v)

  abbrev y : ℕ
  y = max ((state_of k).table u) ((state_of k).table v)

  groups : Groups (base_of k) (state_of k) u v x y
  groups = groups_of (base_of k) (base_sound k) (state_of k) (state_sound k) m u v granted

  pub two_groups : TwoGroups (board_of k.standing) x y
  unfolding base_of state_of base_under board_of
  two_groups = record {
    lower = groups.lower;
    low_stands = name_from _ _ x groups.x_stands.name;
    high_stands = name_from _ _ y groups.y_stands.name;
    apart = not_below ((merged_in k.standing.board).joined x y) _ _ groups.not_joined groups.x_stands.is_kept groups.y_stands.is_kept;
  }

  module _ (standing : Standing) (moves : Noted) (low high : ℕ) (el : low ≡ x) (eh : high ≡ y) (base : base_under standing ≡ base_under k.standing)
      (table : table_of (board_of standing) ≡ united (table_of (board_of k.standing)) high low)
      (left : (w : ℕ) → is_left standing w ≡ (is_left k.standing w && not (eqb w high))) (rows : moves_in moves ≡ closed_at (moves_in k.moves) m) where
    pub merged_state : state_over standing k.removed moves k.temporaries ≡ left_by (state_of k) (merged m u v)
    unfolding state_of left_by
    merged_state = state_same _ _ _ _ _ _ _ _ (table ∙ ap₂ (united (table_of (board_of k.standing))) eh el) refl rows refl

    merged_left : (w : ℕ) → is_left standing w ≡ (standing_graph (base_of k) (left_by (state_of k) (merged m u v))).stands w
    unfolding left_by
    merged_left w =
        left w ∙ (ap (λ (z : ℕ). is_left k.standing w && not (eqb w z)) eh ∙ (ap (λ b. b && not (eqb w y)) (still_left k w) ∙ (turned ((merged_graph (base_of k) (state_of k)).stands w) (listed (state_of k).removed w) (eqb w y) ∙
        ap (λ b. b && not (listed (state_of k).removed w))
        (sym (stands_now (base_of k).graph (base_sound k).lawful (state_of k).table x y groups.x_stands.name groups.y_stands.name (λ e. let l = groups.lower in omega arith) w)))))

    pub merged_sound : SoundKept standing k.removed moves k.temporaries
    unfolding base_of
    merged_sound = sound_after k standing k.removed moves k.temporaries (merged m u v) base merged_state granted merged_left
