-- The seven calls of a session, and what can come of them. Assumes nothing.
use Rattle.std.specs.Prelude.{ℕ}

-- A call with its arguments. Of the row of marks that merge is lent, and of the table that colour fills, the length counts.
pub data Call : Type 0 where
  note : (u v : ℕ) → Call
  mark : (v : ℕ) → Call
  simplify : (v : ℕ) → Call
  freeze : (v : ℕ) → Call
  push : (v : ℕ) → Call
  merge : (m marks : ℕ) → Call
  colour : (table : ℕ) → Call

-- What comes of a call: the answer, with what it was about.
pub data Outcome : Type 0 where
  -- by number: 2 memory short, 13 no such vertex or move, 14 it does not stand, 16 full, 17 a condition not met, 18 too early
  refused : (number : ℕ) → Outcome
  -- the move m from u to v is noted
  noted : (m u v : ℕ) → Outcome
  marked : (v : ℕ) → Outcome
  simplified : (v : ℕ) → Outcome
  frozen : (v : ℕ) → Outcome
  pushed : (v : ℕ) → Outcome
  -- the ends of the move m were in one group before
  together : (m : ℕ) → Outcome
  -- the ends of the move m can never share a register
  apart : (m : ℕ) → Outcome
  -- the groups of u and v, the ends of the move m, are one now
  merged : (m u v : ℕ) → Outcome
  -- the register of each vertex, 255 for none
  coloured : (register : ℕ → ℕ) → Outcome
