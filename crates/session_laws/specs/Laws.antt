-- The laws of coalescing sessions over whole runs of calls in any order, granted or refused. Assumes nothing.
use Rattle.std.specs.Prelude.{◌≡◌, ℕ, ◌+◌, ◌≤◌, true, false, ◌⊎◌, List, [], ◌∷◌, ◌++◌, ◌≢◌}
use Rattle.graph.specs.Counting.{count}
use Rattle.graph.specs.Shape.{Lawful}
use Rattle.session_laws.specs.Bank.{Usable, is_register}
use Rattle.session_laws.specs.Base.{Opening, base_of, own_class, fixed}
use Rattle.session_laws.specs.State.{State, opened, is_loose, Emptiable}
use Rattle.session_laws.specs.Calls.{Call, Outcome, pushed, coloured}
use Rattle.session_laws.specs.Colouring.{none}
use Rattle.session_laws.specs.Runs.{after, outcomes}
use Rattle.session_laws.specs.Groups.{Answered, Linked, step, note_granted, total}

-- the state after a run, and what came of its calls
abbrev pub reached : Opening → List Call → State
reached o cs = after (base_of o) opened cs

abbrev pub answers : Opening → List Call → List Outcome
answers o cs = outcomes (base_of o) opened cs

-- whether the standing graph can be emptied after a run
abbrev pub EmptiableAfter : Opening → List Call → Type 0
EmptiableAfter o cs = Emptiable (base_of o) (reached o cs)

-- What is opened: a lawful graph and a bank that passed its check.
pub record Proper (o : Opening) : Type 0 where
  pub lawful : Lawful o.given
  pub usable : Usable o.bank

-- What a colouring keeps of the graph that was given. Which vertices are one group is told by a relation.
pub record SoundColouring (o : Opening) (OneGroup : ℕ → ℕ → Type 0) (register : ℕ → ℕ) : Type 0 where
  -- vertices joined in the given graph have different registers, where both have one
  pub differ : (u v : ℕ) → o.given.joined u v ≡ true → (register u ≢ none) → (register v ≢ none) → register u ≢ register v
  pub alike : (u v : ℕ) → OneGroup u v → register u ≡ register v
  pub own : (v : ℕ) → fixed (base_of o) v ≡ true → register v ≡ v
  pub in_bank : (v : ℕ) → (register v ≡ none) ⊎ (is_register o.bank (register v) ≡ true)
  pub outside : (v : ℕ) → (own_class o).stands v ≡ false → register v ≡ none

-- no vertex of the session is left without a register
abbrev pub Complete : Opening → (ℕ → ℕ) → Type 0
Complete o register = (v : ℕ) → (own_class o).stands v ≡ true → is_register o.bank (register v) ≡ true

-- once the standing graph can be emptied, at opening or after a call, it can be after every later call
abbrev pub StaysEmptiable : Opening → List Call → Type 0
StaysEmptiable o cs =
    (before between later : List Call) → cs ≡ (before ++ between) ++ later → EmptiableAfter o before → EmptiableAfter o (before ++ between)

-- every granted colour is sound; its groups are what moves answered merged before it link
abbrev pub ColoursSoundly : Opening → List Call → Type 0
ColoursSoundly o cs =
    (before later : List Outcome) (register : ℕ → ℕ) → answers o cs ≡ before ++ coloured register ∷ later →
    SoundColouring o (Linked before) register

-- the merge table maps each number to the lowest of its group
abbrev pub NamesLowest : Opening → List Call → Type 0
NamesLowest o cs =
    (v : ℕ) → Linked (answers o cs) v ((reached o cs).table v) × ((w : ℕ) → Linked (answers o cs) v w → (reached o cs).table v ≤ w)

-- where the graph can be emptied at opening, no push is granted
abbrev pub NeverPushes : Opening → List Call → Type 0
NeverPushes o cs = EmptiableAfter o [] → (v : ℕ) → Answered (answers o cs) (pushed v) → ⊥

-- and every granted colour gives every vertex a register
abbrev pub ColoursAll : Opening → List Call → Type 0
ColoursAll o cs = EmptiableAfter o [] → (register : ℕ → ℕ) → Answered (answers o cs) (coloured register) → Complete o register

-- so does any granted colour before which nothing was pushed
abbrev pub ColoursUnpushed : Opening → List Call → Type 0
ColoursUnpushed o cs =
    (before later : List Outcome) (register : ℕ → ℕ) → answers o cs ≡ before ++ coloured register ∷ later →
    ((v : ℕ) → Answered before (pushed v) → ⊥) → Complete o register

-- at most as many steps are granted as there were loose vertices at opening and moves noted since
abbrev pub BoundedSteps : Opening → List Call → Type 0
BoundedSteps o cs =
    total step (answers o cs) ≤ count (is_loose (base_of o) opened) o.given.size + total note_granted (answers o cs)

-- All of it, of one run.
pub record RunKeeps (o : Opening) (cs : List Call) : Type 0 where
  pub stays_emptiable : StaysEmptiable o cs
  pub colours_soundly : ColoursSoundly o cs
  pub names_lowest : NamesLowest o cs
  pub never_pushes : NeverPushes o cs
  pub colours_all : ColoursAll o cs
  pub colours_unpushed : ColoursUnpushed o cs
  pub bounded_steps : BoundedSteps o cs

-- a law that holds of every run
abbrev pub Always : (Opening → List Call → Type 0) → Type 0
Always law = (o : Opening) → Proper o → (cs : List Call) → law o cs
