-- What a row of code means: its kind and its fields, and what the engine does with the numbers in them.
use Rattle.std.specs.Prelude.{ℕ, List, Some, None, Option}
use Rattle.std.specs.Borrow.{Bor}
use Rattle.std.specs.Option.{option_map}
use Rattle.code.specs.declared.row.Row.{Row}
use Rattle.code.specs.declared.row.Row.TheVariants.{Constant, Move, Jump, Branch, Give, End, Load, Store, Operator}

-- a row by its kind and its fields; a constant is its eight bytes
pub record Fields : Type 0 where
  pub kind : ℕ
  pub destination : Option ℕ
  pub first : Option ℕ
  pub second : Option ℕ
  pub target : Option ℕ
  pub constant : Option (List ℕ)
  pub slot : Option ℕ

abbrev pub fields : Row (List ℕ) → Fields
fields (Constant to value) =
    record { kind = 2; destination = Some to; first = None; second = None; target = None; constant = Some value; slot = None }
fields (Move to from) =
    record { kind = 3; destination = Some to; first = Some from; second = None; target = None; constant = None; slot = None }
fields (Jump target) =
    record { kind = 4; destination = None; first = None; second = None; target = Some target; constant = None; slot = None }
fields (Branch on target) =
    record { kind = 5; destination = None; first = Some on; second = None; target = Some target; constant = None; slot = None }
fields (Give from) =
    record { kind = 6; destination = None; first = Some from; second = None; target = None; constant = None; slot = None }
fields End =
    record { kind = 7; destination = None; first = None; second = None; target = None; constant = None; slot = None }
fields (Load to slot) =
    record { kind = 8; destination = Some to; first = None; second = None; target = None; constant = None; slot = Some slot }
fields (Store from slot) =
    record { kind = 9; destination = None; first = Some from; second = None; target = None; constant = None; slot = Some slot }
fields (Operator kind to first second constant) =
    record { kind = kind; destination = Some to; first = Some first; second = second; target = None; constant = constant; slot = None }

-- a row that borrows its constant, with the constant by value
abbrev pub by_value : Row (Bor (List ℕ)) → Row (List ℕ)
by_value (Constant to value) = Constant to value.now
by_value (Move to from) = Move to from
by_value (Jump target) = Jump target
by_value (Branch on target) = Branch on target
by_value (Give from) = Give from
by_value End = End
by_value (Load to slot) = Load to slot
by_value (Store from slot) = Store from slot
by_value (Operator kind to first second constant) = Operator kind to first second (option_map (λ b. b.now) constant)
