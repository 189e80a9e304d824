-- Worked formulas: what becomes of them by the rules, over stores with room for every pair. Assumes nothing.
use Rattle.std.specs.Prelude.{◌≡◌, ℕ, ◌-◌, ◌*◌, ◌/◌, List, [], ◌∷◌, Some, None}
use Rattle.code.specs.Rows.{Fields}
use Rattle.formula.specs.Formulas.{Formula}
use Rattle.formula.specs.Worked.{square}
use Rattle.graph.specs.Shape.{Meaning}
use Rattle.graph.specs.Stores.{empty_store}
use Rattle.allocation.specs.Costs.{uses, by_cost}
use Rattle.allocation.specs.Driving.{Policy}
use Rattle.allocation.specs.Rounds.{refused, done, allocation}

-- a fresh store of n vertices with room for every pair
abbrev pub roomy : ℕ → Meaning
roomy n = empty_store n (n * (n - 1) / 2)

abbrev pub cheapest : List Fields → Policy
cheapest rows = by_cost (uses rows)

-- a constant to 0, the operator 16 of 0 and 0, give 0, end
abbrev pub square_code : List ℕ
square_code =
    0x00 ∷ 0x00 ∷ 0x04 ∷ 0x00
    ∷ 0x11 ∷ 0x02 ∷ 0x00 ∷ 0x00 ∷ 0x01 ∷ 0x02 ∷ 0x03 ∷ 0x04 ∷ 0x05 ∷ 0x06 ∷ 0x07 ∷ 0x08
    ∷ 0x07 ∷ 0x10 ∷ 0x00 ∷ 0x00 ∷ 0x00 ∷ 0x00 ∷ 0x00 ∷ 0x00
    ∷ 0x02 ∷ 0x06 ∷ 0x00 ∷ 0x00
    ∷ 0x00 ∷ 0x07 ∷ []

abbrev pub square_rows : List Fields
square_rows =
    record { kind = 2; destination = Some 0; first = None; second = None; target = None; constant = Some (1 ∷ 2 ∷ 3 ∷ 4 ∷ 5 ∷ 6 ∷ 7 ∷ 8 ∷ []); slot = None }
    ∷ record { kind = 16; destination = Some 0; first = Some 0; second = Some 0; target = None; constant = None; slot = None }
    ∷ record { kind = 6; destination = None; first = Some 0; second = None; target = None; constant = None; slot = None }
    ∷ record { kind = 7; destination = None; first = None; second = None; target = None; constant = None; slot = None }
    ∷ []

-- one register of class 0 and three values: 32 and 33 are constants, 34 is an operator of both and is given
abbrev pub sum_rows : List Fields
sum_rows =
    record { kind = 2; destination = Some 32; first = None; second = None; target = None; constant = Some (0 ∷ 0 ∷ 0 ∷ 0 ∷ 0 ∷ 0 ∷ 0 ∷ 0 ∷ []); slot = None }
    ∷ record { kind = 2; destination = Some 33; first = None; second = None; target = None; constant = Some (0 ∷ 0 ∷ 0 ∷ 0 ∷ 0 ∷ 0 ∷ 0 ∷ 0 ∷ []); slot = None }
    ∷ record { kind = 16; destination = Some 34; first = Some 32; second = Some 33; target = None; constant = None; slot = None }
    ∷ record { kind = 6; destination = None; first = Some 34; second = None; target = None; constant = None; slot = None }
    ∷ record { kind = 7; destination = None; first = None; second = None; target = None; constant = None; slot = None }
    ∷ []

abbrev pub sum : Formula
sum = record { k0 = 1; k1 = 1; values = 3; classes = 0; rows = sum_rows }

pub record Worked : Type 0 where
  -- the constant, its copy and the square share one register, and the move is dropped
  pub square_done : allocation cheapest roomy square ≡ done (record { rounds = 1; slots = 0; moves = 1; kept = 0; steps = 3; rows = square_rows; code = square_code })
  -- two temporaries are live together, and there is one register
  pub sum_refused : allocation cheapest roomy sum ≡ refused 19 3
