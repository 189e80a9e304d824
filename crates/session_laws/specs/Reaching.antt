-- States that runs of calls lead to. Assumes nothing.
use Rattle.std.specs.Prelude.{◌≡◌, ℕ, List, ◌≢◌}
use Rattle.session_laws.specs.Base.{Base, SoundBase}
use Rattle.session_laws.specs.State.{State, opened, Emptiable}
use Rattle.session_laws.specs.Calls.{Call, pushed}
use Rattle.session_laws.specs.Outcomes.{outcome}
use Rattle.session_laws.specs.Runs.{called, after, outcomes}
use Rattle.session_laws.specs.Invariants.{SoundState, AllLight}
use Rattle.session_laws.specs.Groups.{Answered}

-- Some run leads from the opening to this state.
pub record Reached (b : Base) (s : State) : Type 0 where
  pub calls : List Call
  pub leads : after b opened calls ≡ s

-- Some run without a granted push does.
pub record ReachedUnpushed (b : Base) (s : State) : Type 0 where
  pub calls : List Call
  pub leads : after b opened calls ≡ s
  pub no_push : (v : ℕ) → Answered (outcomes b opened calls) (pushed v) → ⊥

-- What holds where a run has led, and how the next call hands it on.
pub record Reaching (b : Base) : Type 0 where
  pub at_opening : Reached b opened
  pub onwards : (s : State) (c : Call) → Reached b s → Reached b (called b s c)
  pub sound : (s : State) → Reached b s → SoundState b s
  pub at_opening_unpushed : ReachedUnpushed b opened
  pub onwards_unpushed : (s : State) (c : Call) → ((v : ℕ) → outcome b s c ≢ pushed v) → ReachedUnpushed b s → ReachedUnpushed b (called b s c)
  pub light : (s : State) → ReachedUnpushed b s → AllLight b s
  -- from a graph that can be emptied every run is one without a push, and the graph still can be
  pub unpushed : Emptiable b opened → (s : State) → Reached b s → ReachedUnpushed b s × Emptiable b s

abbrev pub Reaches : Type 0
Reaches = (b : Base) → SoundBase b → Reaching b
