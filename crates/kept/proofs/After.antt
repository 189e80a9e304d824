-- A session after a granted call hangs together. Assumes nothing.
use Rattle.std.proofs.Common.{◌≡◌, ℕ, ◌<◌, Bool, true, not, ◌&&◌, ◌||◌, eqb, ltb, ◌⊎◌, List, [], ◌∷◌, ◌++◌, length, sym, refl, ap, ◌∙◌, subst, ap₂, inl, inr, arith}
use mathlib.Core.Path.{fun_ext}
use Rattle.std.proofs.lemmas.Bool.{lt-ltb}
use Rattle.std.proofs.lemmas.Bool.Decides.{nat_tests}
use Rattle.numbers.specs.Sets.{has}
use Rattle.numbers.specs.declared.number_set.NumberSet.{NumberSet}
use Rattle.board.specs.Boards.{table_of}
use Rattle.session_laws.specs.Base.{Base}
use Rattle.session_laws.specs.State.{State, Move, listed, standing_graph, merged_graph}
use Rattle.session_laws.specs.Calls.{Call, Outcome, noted, marked, simplified, frozen, pushed, together, apart}
use Rattle.session_laws.specs.Grounds.{GrantedOn}
use Rattle.session_laws.specs.Invariants.{SoundState}
use Rattle.session_laws.specs.Outcomes.{outcome}
use Rattle.session_laws.specs.Runs.{left_by}
use Rattle.session_laws.proofs.Granting.{grounds}
use Rattle.session_laws.proofs.Sound.{keeps_sound}
use Rattle.standing.specs.Standing.{board_of, is_left, base_of as base_under}
use Rattle.standing.specs.declared.standing.Standing.{Standing}
use Rattle.kept.specs.Moves.{moves_in, closed_at, closed_of}
use Rattle.kept.specs.Removed.{groups_in}
use Rattle.kept.specs.Sound.{SoundKept, state_over}
use Rattle.kept.specs.Kept.{base_of, state_of}
use Rattle.kept.specs.declared.kept.Kept.{Kept}
use Rattle.kept.specs.declared.noted.Noted.{Noted}
use Rattle.kept.specs.declared.removed.Removed.{Removed}
use Rattle.kept.proofs.Facts.{sound_of, base_sound, state_sound}

pub granted_on : (k : Kept) (c : Call) (o : Outcome) → o ≡ outcome (base_of k) (state_of k) c → GrantedOn (base_of k) (state_of k) o
granted_on k c o e = subst (GrantedOn (base_of k) (state_of k)) (sym e) (grounds (base_of k) (base_sound k) (state_of k) c)

pub state_same : (t t' : ℕ → ℕ) (r r' : List ℕ) (m m' : List Move) (p p' : ℕ → Bool) → t ≡ t' → r ≡ r' → m ≡ m' → p ≡ p' →
    ◌≡◌ {A = State} (record { table = t; removed = r; moves = m; temporary = p }) (record { table = t'; removed = r'; moves = m'; temporary = p' })
state_same t t' r r' m m' p p' et er em ep = λ i. record { table = et i; removed = er i; moves = em i; temporary = ep i }

pub sound_after : (k : Kept) (standing : Standing) (removed : Removed) (moves : Noted) (temporaries : NumberSet) (o : Outcome) →
    base_under standing ≡ base_of k → state_over standing removed moves temporaries ≡ left_by (state_of k) o → GrantedOn (base_of k) (state_of k) o →
    ((w : ℕ) → is_left standing w ≡ (standing_graph (base_of k) (left_by (state_of k) o)).stands w) → SoundKept standing removed moves temporaries
sound_after k standing removed moves temporaries o eb es g left = record {
  left = λ w. left w ∙ sym (ap₂ (λ (b : Base) (s : State). (standing_graph b s).stands w) eb es);
  state = subst (λ (b : Base). SoundState b (state_over standing removed moves temporaries)) (sym eb)
      (subst (λ (s : State). SoundState (base_of k) s) (sym es) (keeps_sound (base_of k) (base_sound k) (state_of k) (state_sound k) o g));
}

pub still_left : (k : Kept) (w : ℕ) → is_left k.standing w ≡ (standing_graph (base_of k) (state_of k)).stands w
unfolding base_of state_of
still_left k w = (sound_of k).left w

-- ---- mark

module _ (k : Kept) (v : ℕ) (temporaries : NumberSet) (small : v < 512)
    (is : (w : ℕ) → has temporaries w ≡ (has k.temporaries w || (ltb v 512 && eqb w v))) where
  turned : (a b c : Bool) → b ≡ true → (a || (b && c)) ≡ (c || a)
  turned a b c h = grind (arith, nat_tests)

  pub marked_state : state_over k.standing k.removed k.moves temporaries ≡ left_by (state_of k) (marked v)
  unfolding state_of left_by
  marked_state = state_same _ _ _ _ _ _ _ _ refl refl refl (fun_ext (λ w. is w ∙ turned (has k.temporaries w) (ltb v 512) (eqb w v) (lt-ltb v 512 small)))

  pub marked_sound : GrantedOn (base_of k) (state_of k) (marked v) → SoundKept k.standing k.removed k.moves temporaries
  unfolding base_of left_by
  marked_sound g = sound_after k k.standing k.removed k.moves temporaries (marked v) refl marked_state g (still_left k)

-- ---- freeze, and a move that is closed: only the moves change

-- only the moves change
module _ (k : Kept) (moves : Noted) (o : Outcome) (state : state_over k.standing k.removed moves k.temporaries ≡ left_by (state_of k) o)
    (stays : (w : ℕ) → (standing_graph (base_of k) (left_by (state_of k) o)).stands w ≡ (standing_graph (base_of k) (state_of k)).stands w) where
  pub moves_sound : GrantedOn (base_of k) (state_of k) o → SoundKept k.standing k.removed moves k.temporaries
  unfolding base_of
  moves_sound g = sound_after k k.standing k.removed moves k.temporaries o refl state g (λ w. still_left k w ∙ sym (stays w))

pub moves_state : (k : Kept) (moves : Noted) (ms : List Move) → moves_in moves ≡ ms →
    state_over k.standing k.removed moves k.temporaries ≡ record { table = (state_of k).table; removed = (state_of k).removed; moves = ms; temporary = (state_of k).temporary }
unfolding state_of
moves_state k moves ms e = state_same _ _ _ _ _ _ _ _ refl refl e refl

module _ (k : Kept) (m u v : ℕ) (moves : Noted) where
  pub noted_state : moves_in moves ≡ moves_in k.moves ++ record { one = u; other = v; pending = true } ∷ [] →
      state_over k.standing k.removed moves k.temporaries ≡ left_by (state_of k) (noted m u v)
  unfolding state_of left_by
  noted_state e = moves_state k moves _ e

  pub frozen_state : moves_in moves ≡ closed_of (table_of (board_of k.standing)) v (moves_in k.moves) →
      state_over k.standing k.removed moves k.temporaries ≡ left_by (state_of k) (frozen v)
  unfolding state_of left_by
  frozen_state e = moves_state k moves _ e

  pub closed_state : moves_in moves ≡ closed_at (moves_in k.moves) m → state_over k.standing k.removed moves k.temporaries ≡ left_by (state_of k) (together m)
  unfolding state_of left_by
  closed_state e = moves_state k moves _ e

  pub noted_sound : moves_in moves ≡ moves_in k.moves ++ record { one = u; other = v; pending = true } ∷ [] →
      GrantedOn (base_of k) (state_of k) (noted m u v) → SoundKept k.standing k.removed moves k.temporaries
  unfolding left_by
  noted_sound e g = moves_sound k moves (noted m u v) (noted_state e) (λ w. refl) g

  pub frozen_sound : moves_in moves ≡ closed_of (table_of (board_of k.standing)) v (moves_in k.moves) →
      GrantedOn (base_of k) (state_of k) (frozen v) → SoundKept k.standing k.removed moves k.temporaries
  unfolding left_by
  frozen_sound e g = moves_sound k moves (frozen v) (frozen_state e) (λ w. refl) g

  pub closed_sound : moves_in moves ≡ closed_at (moves_in k.moves) m →
      GrantedOn (base_of k) (state_of k) (together m) ⊎ GrantedOn (base_of k) (state_of k) (apart m) → SoundKept k.standing k.removed moves k.temporaries
  unfolding left_by
  closed_sound e (inl g) = moves_sound k moves (together m) (closed_state e) (λ w. refl) g
  closed_sound e (inr g) = moves_sound k moves (apart m) (closed_state e) (λ w. refl) g

-- a move that is decided was noted
pub open_low : (b : Base) (s : State) (m : ℕ) → GrantedOn b s (together m) ⊎ GrantedOn b s (apart m) → m < length s.moves
open_low b s m (inl g) = g.is_open.is_noted
open_low b s m (inr g) = g.is_open.is_noted

pub apart_together : (s : State) (m : ℕ) → left_by s (apart m) ≡ left_by s (together m)
unfolding left_by
apart_together s m = refl

-- ---- simplify and push: v is taken away

module _ (k : Kept) (v : ℕ) (standing : Standing) (removed : Removed) (moves : Noted) (base : base_under standing ≡ base_under k.standing)
    (board : board_of standing ≡ board_of k.standing) (left : (w : ℕ) → is_left standing w ≡ (is_left k.standing w && not (eqb w v)))
    (gone : groups_in removed ≡ v ∷ groups_in k.removed) where
  eqb_turned : (a b : ℕ) (m r : Bool) → ((m && not r) && not (eqb a b)) ≡ (m && not (eqb b a || r))
  eqb_turned a b m r = grind (arith, nat_tests)

  pub taken_left : (w : ℕ) → is_left standing w ≡ ((merged_graph (base_of k) (state_of k)).stands w && not (listed (v ∷ (state_of k).removed) w))
  taken_left w =
      left w ∙ (ap (λ x. x && not (eqb w v)) (still_left k w) ∙ eqb_turned w v ((merged_graph (base_of k) (state_of k)).stands w) (listed (state_of k).removed w))

  pub simplified_state : moves_in moves ≡ moves_in k.moves → state_over standing removed moves k.temporaries ≡ left_by (state_of k) (simplified v)
  unfolding state_of left_by
  simplified_state e = state_same _ _ _ _ _ _ _ _ (ap table_of board) gone e refl

  pub simplified_sound : moves_in moves ≡ moves_in k.moves → GrantedOn (base_of k) (state_of k) (simplified v) → SoundKept standing removed moves k.temporaries
  unfolding base_of left_by
  simplified_sound e g = sound_after k standing removed moves k.temporaries (simplified v) base (simplified_state e) g taken_left

  pub pushed_state : moves_in moves ≡ closed_of (table_of (board_of k.standing)) v (moves_in k.moves) →
      state_over standing removed moves k.temporaries ≡ left_by (state_of k) (pushed v)
  unfolding state_of left_by
  pushed_state e = state_same _ _ _ _ _ _ _ _ (ap table_of board) gone e refl

  pub pushed_sound : moves_in moves ≡ closed_of (table_of (board_of k.standing)) v (moves_in k.moves) →
      GrantedOn (base_of k) (state_of k) (pushed v) → SoundKept standing removed moves k.temporaries
  unfolding base_of left_by
  pushed_sound e g = sound_after k standing removed moves k.temporaries (pushed v) base (pushed_state e) g taken_left
