-- What is found of a pair that is to be joined, before room is looked for. Assumes nothing.
use Rattle.std.specs.Prelude.{ℕ, Bool, cond, ◌&&◌, Ok, Err, Result, ◌==◌, nat_lt}
use Rattle.graph.specs.declared.pair.Pair.{Pair}
use Rattle.graph.specs.declared.pair.Pair.TheVariants.{Present, Fresh}
use Rattle.graph.specs.declared.refusal.Refusal.{Refusal}
use Rattle.graph.specs.declared.refusal.Refusal.TheVariants.{NoVertex, NotStanding, ToItself}

-- the conditions are checked in this order
abbrev pub judged : ℕ → ℕ → ℕ → Bool → Bool → Result Pair Refusal
judged size u v standing joined =
    cond (nat_lt u size && nat_lt v size)
    (cond standing
    (cond (u == v) (Err ToItself) (cond joined (Ok Present) (Ok Fresh)))
    (Err NotStanding))
    (Err NoVertex)
