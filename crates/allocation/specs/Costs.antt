-- The cheapest group to spill: the cost of its loads and stores by what taking it away gains. Assumes nothing.
use Rattle.std.specs.Prelude.{ℕ, ◌+◌, ◌*◌, Bool, cond, List, [], ◌∷◌, ◌==◌, nat_lt}
use Rattle.code.specs.Rows.{Fields}
use Rattle.graph.specs.Stores.{total}
use Rattle.liveness.specs.Flow.{names}
use Rattle.session_laws.specs.State.{degree_in}
use Rattle.allocation.specs.Driving.{Policy}

abbrev pub one_if : Bool → ℕ
one_if b = cond b 1 0

-- how many fields of a row name v
abbrev pub row_uses : Fields → ℕ → ℕ
row_uses f v = one_if (names f.destination v) + one_if (names f.first v) + one_if (names f.second v)

-- how many fields of the code name v
unfoldable pub uses : List Fields → ℕ → ℕ
uses [] v = 0
uses (f ∷ fs) v = row_uses f v + uses fs v

-- the cost of the group v: how many fields name a member, once each
unfoldable pub cost : (ℕ → ℕ) → ℕ → (ℕ → ℕ) → ℕ → ℕ
cost used n table v = total (λ w. cond (table w == v) (used w) 0) n

-- by cost: the less cost for each neighbour, the rather is a group spilled. Fractions are compared crosswise
unfoldable pub by_cost : (ℕ → ℕ) → Policy
by_cost used b s u v =
    nat_lt (cost used b.graph.size s.table u * degree_in b s v) (cost used b.graph.size s.table v * degree_in b s u)
