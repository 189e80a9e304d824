-- Whether a store can be opened. Assumes nothing.
use Rattle.std.specs.Prelude.{ℕ, Bool, cond, ◌&&◌, Ok, Err, Result, nat_le}
use Rattle.graph.specs.declared.opening.OpeningRefusal.{OpeningRefusal}
use Rattle.graph.specs.declared.opening.OpeningRefusal.TheVariants.{NoSuchSize, ShortMemory}

-- the number that a refusal is known by
abbrev pub opening_number : OpeningRefusal → ℕ
opening_number NoSuchSize = 13
opening_number ShortMemory = 2

-- the size is checked before the memory
abbrev pub opening : ℕ → Bool → Result (Unit {0}) OpeningRefusal
opening n enough =
    cond (nat_le 32 n && nat_le n 512) (cond enough (Ok tt) (Err ShortMemory)) (Err NoSuchSize)
