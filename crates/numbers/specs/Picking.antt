-- Which numbers a test picks.
use Rattle.std.specs.Prelude.{◌≡◌, ℕ, ◌<◌, ◌≤◌, Bool, false}

-- a number below n is a member where the test answers so, and no other number is
pub record Picks (answers : ℕ → Bool → Type 0) (n : ℕ) (member : ℕ → Bool) : Type 0 where
  pub inside : (k : ℕ) → k < n → answers k (member k)
  pub outside : (k : ℕ) → n ≤ k → member k ≡ false
