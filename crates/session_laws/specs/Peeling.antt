-- Finding out whether a graph can be emptied, by taking away one vertex of low degree after the other. Assumes nothing.
use Rattle.std.specs.Prelude.{ℕ, zero, suc, Bool, not, ◌&&◌, ◌||◌, Some, None, Option, ◌==◌, nat_lt}
use Rattle.graph.specs.Counting.{count, any, first}
use Rattle.graph.specs.Shape.{Shape}
use Rattle.session_laws.specs.Emptying.{loose}

-- how many vertices u is joined to that are fixed or in the set c
abbrev pub bound_in : (ℕ → Bool) → Shape → (ℕ → Bool) → ℕ → ℕ
bound_in fixed s c u = count (λ v. s.joined u v && (fixed v || c v)) s.size

-- whether v is in the set c and joined to fewer than k that are fixed or in it
abbrev pub light_in : (ℕ → Bool) → ℕ → Shape → (ℕ → Bool) → ℕ → Bool
light_in fixed k s c v = let few = nat_lt (bound_in fixed s c v) k in c v && few

-- the set without one of its vertices
abbrev pub without : (ℕ → Bool) → Option ℕ → ℕ → Bool
without c None = c
without c (Some u) = λ v. c v && not (v == u)

-- what is left of the set c after taking away, so many times, the lowest vertex that is light in what is left
abbrev pub left_of : (ℕ → Bool) → ℕ → Shape → ℕ → (ℕ → Bool) → ℕ → Bool
left_of fixed k s zero c = c
left_of fixed k s (suc n) c = left_of fixed k s n (without c (first (light_in fixed k s c) 0 s.size))

unfoldable pub empties : (ℕ → Bool) → ℕ → Shape → Bool
empties fixed k s = not (any (left_of fixed k s s.size (loose fixed s)) s.size)
