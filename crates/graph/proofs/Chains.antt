-- What the library's `any` answers over the numbers below n. Assumes nothing.
use Rattle.std.proofs.Common.{◌≡◌, ℕ, zero, suc, ◌+◌, Bool, false, ◌||◌, sym, refl, ap, ◌∙◌, ap₂, arith}
use Rattle.std.proofs.Math.Bool.{or_comm, or_assoc}
use Rattle.std.specs.List.{list_any, range_with_len}
use Rattle.graph.specs.Counting.{any}

any_last : (p : ℕ → Bool) (a n : ℕ) → list_any p (range_with_len a (suc n)) ≡ (list_any p (range_with_len a n) || p (a + n))
any_last p a zero = let e : a ≡ a + 0 = omega arith in or_comm (p a) false ∙ ap p e
any_last p a (suc n) =
    let rest : Bool = list_any p (range_with_len (a + 1) n) in
    let e : a + 1 + n ≡ a + suc n = omega arith in
    ap (λ b. p a || b) (any_last p (a + 1) n) ∙ (sym (or_assoc (p a) rest (p (a + 1 + n))) ∙ ap (λ k. (p a || rest) || p k) e)

pub any_below : (p : ℕ → Bool) (n : ℕ) → list_any p (range_with_len 0 n) ≡ any p n
any_below p zero = refl
any_below p (suc n) =
    let e : 0 + n ≡ n = omega arith in
    any_last p 0 n ∙ (or_comm (list_any p (range_with_len 0 n)) (p (0 + n)) ∙ ap₂ (λ k b. p k || b) e (any_below p n))
