-- The pairs of numbers that code joins: they may not share a register.
use Rattle.std.specs.Prelude.{◌≡◌, ℕ, ◌<◌, Bool, true, false, ◌&&◌, ◌⊎◌, List}
use Rattle.std.specs.List.{slice_get}
use Rattle.code.specs.Codes.{is_move}
use Rattle.code.specs.Rows.{Fields}
use Rattle.liveness.specs.Flow.{passes, names, sets}
use Rattle.liveness.specs.Live.{LiveAfter}

-- whether the row at place i is a move to u from v
unfoldable pub moves : List Fields → ℕ → ℕ → ℕ → Bool
moves rows i u v = passes (slice_get rows i) (λ f. is_move f && (names f.destination u && names f.first v))

-- registers are the numbers below 32; two of them are never joined
abbrev pub BothRegisters : ℕ → ℕ → Type 0
BothRegisters u v = (u < 32) × (v < 32)

-- the row at place i sets u, and so joins it to every other number v that is live after the row;
-- as a move, it does not join its destination to its source
pub record JoinsAt (rows : List Fields) (i u v : ℕ) : Type 0 where
  pub set_here : sets rows i u ≡ true
  pub live_on : LiveAfter rows i v
  pub other : u ≡ v → ⊥
  pub no_move : moves rows i u v ≡ false
  pub no_registers : BothRegisters u v → ⊥

-- some row joins the two, one way round or the other
abbrev pub Joined : List Fields → ℕ → ℕ → Type 0
Joined rows u v = (i : ℕ) × (JoinsAt rows i u v ⊎ JoinsAt rows i v u)

-- the two ends of some move
abbrev pub MoveEnds : List Fields → ℕ → ℕ → Type 0
MoveEnds rows u v = (i : ℕ) × ((moves rows i u v ≡ true) ⊎ (moves rows i v u ≡ true))
