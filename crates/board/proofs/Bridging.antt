-- Counting in sets, as numbers does it, and in graphs. Assumes nothing.
use Rattle.std.proofs.Common.{◌≡◌, ℕ, zero, suc, ◌+◌, ◌-◌, ◌<◌, ◌≤◌, Bool, false, cond, refl, ap, ◌∙◌, inl, inr, arith}
use Rattle.std.proofs.lemmas.Bool.{cases_Bool}
use Rattle.graph.specs.Counting.{count}
use Rattle.graph.specs.Shape.{Shape, Lawful}
use Rattle.session_laws.proofs.Cores.{far_inside}
use Rattle.graph.proofs.Counting.{count_split, count_none}
use Rattle.numbers.specs.Counting.{count as set_count}

pub counts : (p : ℕ → Bool) (n : ℕ) → set_count p n ≡ count p n
unfolding set_count
counts p zero = refl
counts p (suc n) = ap (λ (k : ℕ). k + cond (p n) 1 0) (counts p n)

pub count_same : (p q : ℕ → Bool) (n : ℕ) → ((v : ℕ) → v < n → p v ≡ q v) → count p n ≡ count q n
count_same p q zero h = refl
count_same p q (suc n) h =
    let before : count p n ≡ count q n = count_same p q n (λ v l. h v (omega arith)) in
    rw (h n (omega arith), before)

-- numbers that do not pass from n on do not count
pub count_more : (p : ℕ → Bool) (n m : ℕ) → n ≤ m → ((v : ℕ) → n ≤ v → p v ≡ false) → count p m ≡ count p n
count_more p n m l none =
    let parts : n + (m - n) ≡ m = omega arith in
    let split : count p (n + (m - n)) ≡ count p n + count (λ k. p (n + k)) (m - n) = count_split p n (m - n) in
    let rest : count (λ k. p (n + k)) (m - n) ≡ 0 = count_none (λ k. p (n + k)) (m - n) (λ k _. none (n + k) (omega arith)) in
    let whole : count p (n + (m - n)) ≡ count p m = ap (count p) parts in
    omega arith

-- how many are in a set: as many as pass a test that the set is of
pub set_size : (p q : ℕ → Bool) (n : ℕ) → n ≤ 512 → ((v : ℕ) → p v ≡ q v) → ((v : ℕ) → n ≤ v → q v ≡ false) → set_count p 512 ≡ count q n
set_size p q n l same none = counts p 512 ∙ (count_same p q 512 (λ v _. same v) ∙ count_more q n 512 l none)

-- nothing past the end is joined
pub none_joined : (g : Shape) → Lawful g → (u v : ℕ) → g.size ≤ v → g.joined u v ≡ false
none_joined g l u v h = elim (cases_Bool (g.joined u v)) [
  | inl j ↦ absurd (let low : v < g.size = far_inside g l u v j in omega arith)
  | inr j ↦ j
]
