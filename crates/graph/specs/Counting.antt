-- Numbers that pass a test: how many, whether any, the first. Assumes nothing.
use Rattle.std.specs.Prelude.{ℕ, zero, suc, ◌+◌, Bool, false, cond, ◌||◌, Some, None, Option}

-- how many numbers below n pass
abbrev pub count : (ℕ → Bool) → ℕ → ℕ
count p zero = 0
count p (suc n) = count p n + cond (p n) 1 0

-- whether a number below n passes. A `let` is computed only when it is needed
abbrev pub any : (ℕ → Bool) → ℕ → Bool
any p zero = false
any p (suc n) = let rest = any p n in p n || rest

-- the lowest of the k numbers from `from` on that passes
abbrev pub first : (ℕ → Bool) → ℕ → ℕ → Option ℕ
first p from zero = None
first p from (suc k) = let later = first p (suc from) k in cond (p from) (Some from) later
