-- When two groups may be merged without making the graph harder to colour. Assumes nothing.
use Rattle.std.specs.Prelude.{ℕ, Bool, cond, not, ◌&&◌, ◌||◌, nat_le, nat_lt}
use Rattle.graph.specs.Counting.{count, any}
use Rattle.graph.specs.Shape.{Shape, degree}

-- fixed, or of degree k or more: what simplify does not take away
abbrev pub significant : (ℕ → Bool) → ℕ → Shape → ℕ → Bool
significant fixed k s v = let heavy = nat_le k (degree s v) in fixed v || heavy

-- Briggs's test: u and v have together fewer than k different neighbours that are significant
unfoldable pub briggs : (ℕ → Bool) → ℕ → Shape → ℕ → ℕ → Bool
briggs fixed k s u v =
    nat_lt (count (λ w. let heavy = significant fixed k s w in (s.joined u w || s.joined v w) && heavy) s.size) k

-- George's test: every significant neighbour of v is joined to u
unfoldable pub george : (ℕ → Bool) → ℕ → Shape → ℕ → ℕ → Bool
george fixed k s u v =
    not (any (λ w. let heavy = significant fixed k s w in (s.joined v w && not (s.joined u w)) && heavy) s.size)

-- the test that merge makes of the names of two groups: George's where one of them is fixed, else Briggs's
abbrev pub may_merge : (ℕ → Bool) → ℕ → Shape → ℕ → ℕ → Bool
may_merge fixed k s u v =
    let one = george fixed k s u v in
    let other = george fixed k s v u in
    let neither = briggs fixed k s u v in
    cond (fixed u) one (cond (fixed v) other neither)
