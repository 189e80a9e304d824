-- Worked cases: inputs, and what becomes of them by the rules.
use Rattle.std.specs.Prelude.{◌≡◌, ℕ, List, [], ◌∷◌, length, Some, None}
use Rattle.code.specs.Codes.{moves_in}
use Rattle.code.specs.Rows.{Fields}
use Rattle.fields.specs.Reading.{got, bad}
use Rattle.liveness.specs.Laws.{AllDefined}
use Rattle.formula.specs.Formulas.{Formula, formula_at}

-- two registers of class 0, one of class 1, three values; constant 32, move 33 from 32, operator 34 from 33 and 33, give 34, end
abbrev pub square_bytes : List ℕ
square_bytes =
    0x02 ∷ 0x01 ∷ 0x03 ∷ 0x00 ∷ 0x05 ∷ 0x00 ∷ 0x00
    ∷ 0x11 ∷ 0x02 ∷ 0x20 ∷ 0x00 ∷ 0x01 ∷ 0x02 ∷ 0x03 ∷ 0x04 ∷ 0x05 ∷ 0x06 ∷ 0x07 ∷ 0x08
    ∷ 0x03 ∷ 0x03 ∷ 0x21 ∷ 0x00 ∷ 0x20 ∷ 0x00
    ∷ 0x07 ∷ 0x10 ∷ 0x22 ∷ 0x00 ∷ 0x21 ∷ 0x00 ∷ 0x21 ∷ 0x00
    ∷ 0x02 ∷ 0x06 ∷ 0x22 ∷ 0x00
    ∷ 0x00 ∷ 0x07 ∷ []

abbrev pub square_rows : List Fields
square_rows =
    record { kind = 2; destination = Some 32; first = None; second = None; target = None; constant = Some (1 ∷ 2 ∷ 3 ∷ 4 ∷ 5 ∷ 6 ∷ 7 ∷ 8 ∷ []); slot = None }
    ∷ record { kind = 3; destination = Some 33; first = Some 32; second = None; target = None; constant = None; slot = None }
    ∷ record { kind = 16; destination = Some 34; first = Some 33; second = Some 33; target = None; constant = None; slot = None }
    ∷ record { kind = 6; destination = None; first = Some 34; second = None; target = None; constant = None; slot = None }
    ∷ record { kind = 7; destination = None; first = None; second = None; target = None; constant = None; slot = None }
    ∷ []

abbrev pub square : Formula
square = record { k0 = 2; k1 = 1; values = 3; classes = 0; rows = square_rows }

pub record Worked : Type 0 where
  -- no input at all
  pub empty : formula_at [] ≡ bad 3 0
  -- 97 values are too many, and 96 go on, here to a formula of no records
  pub too_many_values : formula_at (1 ∷ 1 ∷ 97 ∷ 0 ∷ 0 ∷ 0 ∷ []) ≡ bad 4 2
  pub most_values : formula_at (1 ∷ 1 ∷ 96 ∷ 0 ∷ []) ≡ bad 3 4
  pub no_records : formula_at (1 ∷ 1 ∷ 96 ∷ 0 ∷ 0 ∷ 0 ∷ []) ≡ bad 4 4
  -- a formula in order, with five records, three values and one move
  pub accepted : formula_at square_bytes ≡ got square 39
  pub defined : AllDefined square.rows
  pub five_records : length square.rows ≡ 5
  pub one_move : moves_in square.rows ≡ 1
