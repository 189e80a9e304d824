-- Counting and finding among the numbers that pass a test. The definitions are shut; proofs/Counting.antt has their laws.
use Rattle.std.specs.Prelude.{ℕ, zero, suc, ◌+◌, Bool, false, cond, ◌||◌, Some, None, Option}

-- how many numbers below n pass
unfoldable pub count : (ℕ → Bool) → ℕ → ℕ
count p zero = 0
count p (suc n) = count p n + cond (p n) 1 0

-- whether some number below n passes
unfoldable pub any : (ℕ → Bool) → ℕ → Bool
any p zero = false
any p (suc n) = any p n || p n

-- the lowest number that passes among the k numbers from `from` on
unfoldable pub first : (ℕ → Bool) → ℕ → ℕ → Option ℕ
first p from zero = None
first p from (suc k) = cond (p from) (Some from) (first p (suc from) k)
