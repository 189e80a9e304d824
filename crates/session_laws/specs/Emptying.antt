-- When the vertices of a graph can be taken away one after the other, each of low degree. Assumes nothing.
use Rattle.std.specs.Prelude.{◌≡◌, ℕ, ◌<◌, Bool, true, not, ◌&&◌, ◌||◌, nat_lt}
use Rattle.graph.specs.Counting.{count}
use Rattle.graph.specs.Shape.{Shape}

-- loose vertices stand and are not fixed
abbrev pub loose : (ℕ → Bool) → Shape → ℕ → Bool
loose fixed s v = s.stands v && not (fixed v)

-- how many vertices u is joined to that are fixed or at a later place
abbrev pub still_joined : (ℕ → Bool) → Shape → (ℕ → ℕ) → ℕ → ℕ
still_joined fixed s place u = count (λ v. s.joined u v && (fixed v || nat_lt (place u) (place v))) s.size

-- A graph can be emptied when its loose vertices have an order, a place for each, in which each is joined to fewer than k
-- that are fixed or later.
pub record CanBeEmptied (fixed : ℕ → Bool) (k : ℕ) (s : Shape) : Type 0 where
  pub place : ℕ → ℕ
  pub own_place : (u v : ℕ) → loose fixed s u ≡ true → loose fixed s v ≡ true → place u ≡ place v → u ≡ v
  pub few : (u : ℕ) → loose fixed s u ≡ true → still_joined fixed s place u < k
