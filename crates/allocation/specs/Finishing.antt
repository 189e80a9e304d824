-- Allocated code: registers for numbers, without the moves that have become idle. Assumes nothing.
use Rattle.std.specs.Prelude.{ℕ, Bool, false, cond, ◌&&◌, List, [], ◌∷◌, ◌++◌, map, length, Some, None, Option, ◌==◌}
use Rattle.std.specs.Option.{option_map}
use Rattle.code.specs.Codes.{is_move}
use Rattle.code.specs.Rows.{Fields}
use Rattle.code.specs.Writing.{two_bytes, rows_bytes}
use Rattle.allocation.specs.Pieces.{laid_out}

-- a row with the register of each number in its place
abbrev pub renamed : (ℕ → ℕ) → Fields → Fields
renamed register f = record {
  kind = f.kind;
  destination = option_map register f.destination;
  first = option_map register f.first;
  second = option_map register f.second;
  target = f.target;
  constant = f.constant;
  slot = f.slot;
}

-- whether two fields are there and have one register
abbrev pub alike : (ℕ → ℕ) → Option ℕ → Option ℕ → Bool
alike register None other = false
alike register (Some u) None = false
alike register (Some u) (Some v) = register u == register v

-- a move whose ends have one register does nothing
abbrev pub idle : (ℕ → ℕ) → Fields → Bool
idle register f = is_move f && alike register f.destination f.first

abbrev pub final_piece : (ℕ → ℕ) → Fields → List Fields
final_piece register f = cond (idle register f) [] (renamed register f ∷ [])

-- the rows of allocated code
unfoldable pub final_rows : (ℕ → ℕ) → List Fields → List Fields
final_rows register rows = laid_out (map (final_piece register) rows)

-- allocated code as bytes: how many slots, how many rows, and the rows
unfoldable pub code_bytes : ℕ → List Fields → List ℕ
code_bytes slots rows = two_bytes slots ++ (two_bytes (length rows) ++ rows_bytes rows)
