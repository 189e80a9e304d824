-- What one call adds to the laws, in a state that a session can reach. Assumes nothing.
use Rattle.std.specs.Prelude.{◌≡◌, ℕ, ◌+◌, ◌≤◌, true, false, ◌⊎◌, length, ◌≢◌}
use Rattle.graph.specs.Counting.{count}
use Rattle.session_laws.specs.Bank.{among}
use Rattle.session_laws.specs.Base.{Opening, Base, SoundBase, base_of, fixed}
use Rattle.session_laws.specs.State.{State, opened, is_loose, move_at, Emptiable}
use Rattle.session_laws.specs.Calls.{Call, pushed, coloured}
use Rattle.session_laws.specs.Colouring.{none}
use Rattle.session_laws.specs.Outcomes.{outcome}
use Rattle.session_laws.specs.Grounds.{GrantedOn}
use Rattle.session_laws.specs.Runs.{called}
use Rattle.session_laws.specs.Invariants.{SoundState, AllLight}
use Rattle.session_laws.specs.Groups.{step, note_granted}
use Rattle.session_laws.specs.Laws.{Proper}

-- What a session is opened with.
pub record OpenedWell (o : Opening) : Type 0 where
  pub base : SoundBase (base_of o)
  pub state : SoundState (base_of o) opened
  pub light : AllLight (base_of o) opened

abbrev pub OpensWell : Type 0
OpensWell = (o : Opening) → Proper o → OpenedWell o

-- What a granted colour keeps of the graph that the session works on: vertices joined differ where both have a register,
-- all that the table maps to one name have one answer, a fixed vertex has its own number, other numbers have none.
pub record SoundRegisters (b : Base) (s : State) (register : ℕ → ℕ) : Type 0 where
  pub differ : (u v : ℕ) → b.graph.joined u v ≡ true → register u ≡ register v → register u ≡ none
  pub alike : (u v : ℕ) → s.table u ≡ s.table v → register u ≡ register v
  pub own : (v : ℕ) → fixed b v ≡ true → register v ≡ v
  pub in_bank : (v : ℕ) → (register v ≡ none) ⊎ (among b.first b.registers (register v) ≡ true)
  pub outside : (v : ℕ) → b.graph.stands v ≡ false → register v ≡ none

-- no vertex is left without a register
abbrev pub AllRegisters : Base → (ℕ → ℕ) → Type 0
AllRegisters b register = (v : ℕ) → b.graph.stands v ≡ true → among b.first b.registers (register v) ≡ true

-- how much there is left to do: loose vertices and pending moves
unfoldable pub left_to_do : Base → State → ℕ
left_to_do b s = count (is_loose b s) b.graph.size + count (λ m. (move_at s m).pending) (length s.moves)

-- What one call keeps.
pub record KeptByCall (b : Base) (s : State) (c : Call) : Type 0 where
  pub granted_on : GrantedOn b s (outcome b s c)
  pub sound : SoundState b (called b s c)
  -- could the standing graph be emptied before the call, it can be after it
  pub emptiable : Emptiable b s → Emptiable b (called b s c)
  -- and the call is no granted push
  pub unpushed : Emptiable b s → (v : ℕ) → outcome b s c ≢ pushed v
  -- as long as nothing is pushed, each removed group has a register to spare
  pub light : ((v : ℕ) → outcome b s c ≢ pushed v) → AllLight b s → AllLight b (called b s c)
  -- a granted colour is sound, and complete where nothing was pushed
  pub registers : (register : ℕ → ℕ) → outcome b s c ≡ coloured register → SoundRegisters b s register
  pub all_registers : (register : ℕ → ℕ) → outcome b s c ≡ coloured register → AllLight b s → AllRegisters b register
  -- a granted step leaves less to do
  pub less_to_do : step (outcome b s c) + left_to_do b (called b s c) ≤ left_to_do b s + note_granted (outcome b s c)

abbrev pub Keeps : Type 0
Keeps = (b : Base) → SoundBase b → (s : State) → SoundState b s → (c : Call) → KeptByCall b s c
