-- Small graphs over 35 vertices: the registers 0 and 1, which are the bank, and the values 32, 33 and 34. Assumes nothing.
use Rattle.std.specs.Prelude.{◌≡◌, ℕ, Bool, ◌||◌, List, [], ◌∷◌, map, Some, nat_lt}
use Rattle.graph.specs.Shape.{Shape}
use Rattle.graph.specs.Joining.{same_pair}
use Rattle.classes.specs.declared.class.Class.TheVariants.{Zero}
use Rattle.session_laws.specs.Base.{Opening, base_of}
use Rattle.session_laws.specs.State.{Emptiable, opened}
use Rattle.session_laws.specs.Calls.{Call, Outcome, note, mark, simplify, freeze, push, merge, colour, refused, noted, marked, simplified, frozen, pushed, merged, coloured}
use Rattle.session_laws.specs.Colouring.{none, register_of}
use Rattle.session_laws.specs.Outcomes.{outcome}
use Rattle.session_laws.specs.Laws.{reached, answers}

abbrev pub graph_of : (ℕ → ℕ → Bool) → Shape
graph_of joined = record { size = 35; stands = λ v. nat_lt v 35; joined = joined }

-- all values are of class 0, of which two registers may be given out
abbrev pub opening_of : Shape → Opening
opening_of s = record { given = s; bank = record { class = Zero; registers = 2 }; classes = λ _. Some Zero }

-- 32, 33 and 34 in a row
abbrev pub path : Opening
path = opening_of (graph_of (λ u v. same_pair 32 33 u v || same_pair 33 34 u v))

-- each of 32, 33 and 34 joined to the other two
abbrev pub triangle : Opening
triangle = opening_of (graph_of (λ u v. (same_pair 32 33 u v || same_pair 33 34 u v) || same_pair 32 34 u v))

-- two moves; 34 goes into 32 by Briggs's test, the group into the register 0 by George's, and 33 is taken away
abbrev pub path_calls : List Call
path_calls =
    note 32 34 ∷ note 0 34 ∷ colour 512 ∷ simplify 33 ∷ merge 0 511 ∷ merge 2 512 ∷ merge 0 512 ∷ merge 0 512 ∷ simplify 34 ∷
    merge 1 512 ∷ push 33 ∷ simplify 33 ∷ []

abbrev pub path_outcomes : List Outcome
path_outcomes =
    noted 0 32 34 ∷ noted 1 0 34 ∷ refused 18 ∷ refused 17 ∷ refused 2 ∷ refused 13 ∷ merged 0 32 34 ∷ refused 17 ∷ refused 14 ∷
    merged 1 0 34 ∷ refused 17 ∷ simplified 33 ∷ []

-- none is of low degree, so one is pushed; a temporary never is
abbrev pub triangle_calls : List Call
triangle_calls = simplify 33 ∷ mark 32 ∷ push 32 ∷ push 33 ∷ note 32 34 ∷ simplify 32 ∷ freeze 32 ∷ simplify 32 ∷ simplify 34 ∷ []

abbrev pub triangle_outcomes : List Outcome
triangle_outcomes =
    refused 17 ∷ marked 32 ∷ refused 17 ∷ pushed 33 ∷ noted 0 32 34 ∷ refused 17 ∷ frozen 32 ∷ simplified 32 ∷ simplified 34 ∷ []

-- What a run answers, and what colour then gives the three values.
pub record Worked (o : Opening) (calls : List Call) (outcomes : List Outcome) (registers : List ℕ) : Type 0 where
  pub answered : answers o calls ≡ outcomes
  pub granted : outcome (base_of o) (reached o calls) (colour 512) ≡ coloured (register_of (base_of o) (reached o calls))
  pub given : map (register_of (base_of o) (reached o calls)) (32 ∷ 33 ∷ 34 ∷ []) ≡ registers

abbrev pub PathWorked : Type 0
PathWorked = Worked path path_calls path_outcomes (0 ∷ 1 ∷ 0 ∷ [])

abbrev pub TriangleWorked : Type 0
TriangleWorked = Worked triangle triangle_calls triangle_outcomes (1 ∷ none ∷ 0 ∷ [])

-- with two registers the path can be emptied, the triangle cannot
abbrev pub PathEmpties : Type 0
PathEmpties = Emptiable (base_of path) opened

abbrev pub TriangleStays : Type 0
TriangleStays = Emptiable (base_of triangle) opened → ⊥
