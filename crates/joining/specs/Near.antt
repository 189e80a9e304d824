-- What one row joins. Assumes nothing.
use Rattle.std.specs.Prelude.{ℕ, Bool, not, ◌&&◌, ◌==◌, nat_lt}
use Rattle.code.specs.Codes.{is_move}
use Rattle.code.specs.Rows.{Fields}
use Rattle.liveness.specs.Flow.{names}

-- of the live numbers, those that a row joins its destination `to` to: all others, but for the source of a move, and no register to
-- a register
abbrev pub near : Fields → ℕ → (ℕ → Bool) → ℕ → Bool
near f to live v =
    ((live v && not (is_move f && names f.first v)) && not (nat_lt to 32 && nat_lt v 32)) && not (v == to)
