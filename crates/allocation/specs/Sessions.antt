-- One class of a round: its session, driven to its end, and the groups that are left without a register. Assumes nothing.
use Rattle.std.specs.Prelude.{ℕ, ◌+◌, Bool, cond, ◌&&◌, List, [], ◌∷◌, ◌++◌, map, Some, None, Option, ◌==◌, nat_le, nat_lt}
use Rattle.code.specs.Codes.{is_move}
use Rattle.code.specs.Rows.{Fields}
use Rattle.graph.specs.Counting.{count, any}
use Rattle.graph.specs.Shape.{Shape}
use Rattle.graph.specs.Views.{is_chosen}
use Rattle.classes.specs.declared.class.Class.{Class}
use Rattle.classes.specs.declared.class.Class.TheVariants.{Zero, One}
use Rattle.session_laws.specs.Bank.{Bank}
use Rattle.session_laws.specs.Base.{Opening, Base, base_of}
use Rattle.session_laws.specs.State.{State, opened, is_loose}
use Rattle.session_laws.specs.Calls.{Call, note, mark}
use Rattle.session_laws.specs.Colouring.{none, register_of}
use Rattle.session_laws.specs.Runs.{after}
use Rattle.allocation.specs.Driving.{Policy, Run, driven_out}
use Rattle.allocation.specs.Interference.{passing}

-- Code on its way to registers. The class table gives each number from 32 up its class; a value that has gone to a slot has none any
-- more. The numbers from `temporaries` on are temporaries.
pub record Stage : Type 0 where
  pub rows : List Fields
  pub numbers : ℕ
  pub temporaries : ℕ
  pub classes : ℕ → Option Class
  pub slots : ℕ
  pub steps : ℕ

-- the class of a number: registers are sixteen to a class
abbrev pub class_of : (ℕ → Option Class) → ℕ → Option Class
class_of classes v = cond (nat_lt v 16) (Some Zero) (cond (nat_lt v 32) (Some One) (classes v))

-- a move between two numbers of the class is noted
abbrev pub noted_between : (ℕ → Bool) → Option ℕ → Option ℕ → List Call
noted_between own None from = []
noted_between own (Some to) None = []
noted_between own (Some to) (Some from) = cond (own to && own from) (note to from ∷ []) []

abbrev pub row_notes : (ℕ → Bool) → Fields → List Call
row_notes own f = cond (is_move f) (noted_between own f.destination f.first) []

-- the moves of a class in code order
unfoldable pub notes : (ℕ → Bool) → List Fields → List Call
notes own [] = []
notes own (f ∷ fs) = row_notes own f ++ notes own fs

-- the temporaries of a class are marked
unfoldable pub marks : Class → Stage → List Call
marks c t = map mark (passing (λ v. nat_le t.temporaries v && is_chosen c (t.classes v)) t.numbers)

-- the calls before a session is driven
unfoldable pub preparing : Class → Stage → List Call
preparing c t = notes (λ v. is_chosen c (class_of t.classes v)) t.rows ++ marks c t

-- the session of a class over the round's graph
abbrev pub opening_for : Bank → Stage → Shape → Opening
opening_for bank t given = record { given = given; bank = bank; classes = t.classes }

-- the session driven to its end
unfoldable pub run_of : Policy → Stage → Opening → Run
run_of policy t o = driven_out policy (base_of o) (after (base_of o) opened (preparing o.bank.class t))

-- whether a vertex stands that nothing may be done about
unfoldable pub stuck : Base → State → Bool
stuck b s = any (is_loose b s) b.graph.size

-- a vertex that gets no register
abbrev pub left_out : Base → State → ℕ → Bool
left_out b s v = b.graph.stands v && register_of b s v == none

-- a group that gets none, by its name
abbrev pub group_left_out : Base → State → ℕ → Bool
group_left_out b s v = left_out b s v && s.table v == v

-- how many groups get none
unfoldable pub spilled : Base → State → ℕ
spilled b s = count (group_left_out b s) b.graph.size

-- the slot of each vertex that gets no register: that of its group, slots from `from` on given out to the lowest group first
unfoldable pub slot_from : Base → State → ℕ → ℕ → Option ℕ
slot_from b s from v = cond (left_out b s v) (Some (from + count (group_left_out b s) (s.table v))) None
