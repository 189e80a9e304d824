-- Allocation: rounds of colouring both classes, spilling what finds no register, until everything does. Assumes nothing.
use Rattle.std.specs.Prelude.{ℕ, zero, suc, ◌+◌, ◌-◌, ◌/◌, ◌%◌, ◌^◌, cond, ◌&&◌, ◌||◌, List, length, Some, None, Ok, Err, Option, Result, ◌==◌, nat_le, nat_lt}
use Rattle.code.specs.Codes.{moves_in}
use Rattle.code.specs.Rows.{Fields}
use Rattle.formula.specs.Formulas.{Formula}
use Rattle.graph.specs.Refusals.{number_of}
use Rattle.graph.specs.Shape.{Shape, Meaning}
use Rattle.classes.specs.declared.class.Class.{Class}
use Rattle.classes.specs.declared.class.Class.TheVariants.{Zero, One}
use Rattle.graph.specs.declared.refusal.Refusal.{Refusal}
use Rattle.session_laws.specs.Bank.{Bank}
use Rattle.session_laws.specs.Base.{Base, base_of}
use Rattle.session_laws.specs.Colouring.{register_of}
use Rattle.allocation.specs.Driving.{Policy, Run}
use Rattle.allocation.specs.Finishing.{final_rows, code_bytes}
use Rattle.allocation.specs.Interference.{filled, edges_of}
use Rattle.allocation.specs.Rewriting.{rewritten, all_made, carried}
use Rattle.allocation.specs.Sessions.{Stage, opening_for, run_of, stuck, spilled, slot_from}

-- the registers in use of each class
pub record Banks : Type 0 where
  pub zero_many : ℕ
  pub one_many : ℕ

abbrev pub bank_of : Banks → Class → Bank
bank_of k Zero = record { class = Zero; registers = k.zero_many }
bank_of k One = record { class = One; registers = k.one_many }

-- A session at its end: what it was opened over, its state, its granted steps.
pub record Ended : Type 0 where
  pub base : Base
  pub run : Run

abbrev pub ended : (List Fields → Policy) → Banks → Stage → Shape → Class → Ended
ended policy k t given c =
    let o = opening_for (bank_of k c) t given in
    record { base = base_of o; run = run_of (policy t.rows) t o }

abbrev pub or_else : Option ℕ → Option ℕ → Option ℕ
or_else None other = other
or_else (Some s) other = Some s

-- the slot of each number that both sessions have left without a register, class 0 first
abbrev pub slot_after : ℕ → Ended → Ended → ℕ → Option ℕ
slot_after from zeroth first v =
    let below = slot_from first.base first.run.state (from + spilled zeroth.base zeroth.run.state) v in
    or_else (slot_from zeroth.base zeroth.run.state from v) below

-- how many groups of both classes are left without a register
abbrev pub all_spilled : Ended → Ended → ℕ
all_spilled zeroth first = spilled zeroth.base zeroth.run.state + spilled first.base first.run.state

-- the register of each number
abbrev pub registers : Ended → Ended → ℕ → ℕ
registers zeroth first v =
    cond (zeroth.base.graph.stands v) (register_of zeroth.base zeroth.run.state v) (register_of first.base first.run.state v)

-- the next round's code: what got no register goes to slots
unfoldable pub next_stage : Stage → Ended → Ended → Stage
next_stage t zeroth first =
    let slot = slot_after t.slots zeroth first in
    let made = all_made slot t.numbers t.rows in
    record {
      rows = rewritten slot t.numbers t.rows;
      numbers = t.numbers + length made;
      temporaries = t.temporaries;
      classes = carried slot t.numbers made t.classes;
      slots = t.slots + all_spilled zeroth first;
      steps = t.steps + (zeroth.run.steps + first.run.steps);
    }

-- What one round comes to.
pub data Turn : Type 0 where
  -- a vertex is left that nothing may be done about
  no_way : Turn
  -- every number has a register; so many steps were granted in all
  placed : (register : ℕ → ℕ) (steps : ℕ) → Turn
  -- some went to slots
  goes_on : Stage → Turn

abbrev pub settled : Stage → Ended → Ended → Turn
settled t zeroth first =
    let register = registers zeroth first in
    let steps = t.steps + (zeroth.run.steps + first.run.steps) in
    let next = next_stage t zeroth first in
    cond (stuck zeroth.base zeroth.run.state || stuck first.base first.run.state) no_way
    (cond (all_spilled zeroth first == 0) (placed register steps) (goes_on next))

-- one round over its graph
unfoldable pub turn : (List Fields → Policy) → Banks → Stage → Shape → Turn
turn policy k t given = settled t (ended policy k t given Zero) (ended policy k t given One)

-- Allocated code, and what the report tells.
pub record Allocated : Type 0 where
  pub rounds : ℕ
  pub slots : ℕ
  pub moves : ℕ
  pub kept : ℕ
  pub steps : ℕ
  pub rows : List Fields
  pub code : List ℕ

-- moves are those of the source, kept those of the allocated code
abbrev pub allocated : ℕ → ℕ → Stage → (ℕ → ℕ) → ℕ → Allocated
allocated moves round t register steps =
    let rows = final_rows register t.rows in
    record {
      rounds = round;
      slots = t.slots;
      moves = moves;
      kept = moves_in rows;
      steps = steps;
      rows = rows;
      code = code_bytes t.slots rows;
    }

pub data Verdict : Type 0 where
  refused : (number place : ℕ) → Verdict
  done : Allocated → Verdict
  -- more rounds than there may be
  endless : Verdict

-- nothing may be done about a vertex: 19, which names the round. `later` is what becomes of the next round's code
abbrev pub after_turn : ℕ → ℕ → Stage → (Stage → Verdict) → Turn → Verdict
after_turn moves round t later no_way = refused 19 round
after_turn moves round t later (placed register steps) = done (allocated moves round t register steps)
after_turn moves round t later (goes_on next) = later next

-- a graph that is full: 16, which names the round
abbrev pub after_filling : ℕ → (Shape → Verdict) → Result (Unit {0}) Refusal → Shape → Verdict
after_filling round coloured (Ok x) given = coloured given
after_filling round coloured (Err e) given = refused (number_of e) round

-- what becomes of code from this round on, with so many rounds at most; fresh is what a fresh graph of so many vertices means
abbrev pub rounds : (List Fields → Policy) → (ℕ → Meaning) → Banks → ℕ → ℕ → ℕ → Stage → Verdict
rounds policy fresh k moves zero round t = endless
rounds policy fresh k moves (suc fuel) round t =
    let graph = filled (fresh t.numbers) (edges_of t.rows t.numbers) in
    after_filling round
    (λ given. after_turn moves round t (λ next. rounds policy fresh k moves fuel (round + 1) next) (turn policy k t given))
    graph.answer graph.left.shape

-- the class of a value is its bit among the classes
abbrev pub class_bit : ℕ → ℕ → Class
class_bit classes i = cond (classes / 2 ^ i % 2 == 0) Zero One

-- a formula before its first round: values are numbered from 32, no temporaries, no slots
unfoldable pub first_stage : Formula → Stage
first_stage f = record {
  rows = f.rows;
  numbers = 32 + f.values;
  temporaries = 32 + f.values;
  classes = λ v. cond (nat_le 32 v && nat_lt v (32 + f.values)) (Some (class_bit f.classes (v - 32))) None;
  slots = 0;
  steps = 0;
}

abbrev pub banks_of : Formula → Banks
banks_of f = record { zero_many = f.k0; one_many = f.k1 }

-- what becomes of a formula in order: each round but the last takes a value from the class table, so one more than there are values
-- is enough
unfoldable pub allocation : (List Fields → Policy) → (ℕ → Meaning) → Formula → Verdict
allocation policy fresh f = rounds policy fresh (banks_of f) (moves_in f.rows) (f.values + 1) 1 (first_stage f)
