-- What an array made by calls holds, where each call leaves the closure as it was. Assumes nothing.
use Rattle.std.proofs.Common.{◌≡◌, ℕ, zero, suc, ◌+◌, ◌<◌, ◌≤◌, List, get_or, subst, inl, inr, arith}
use Rattle.std.proofs.lemmas.Bool.{cases_eq}
use Rattle.std.specs.Array.{IsFromFnResult, IsFromFnResultFrom}
use Rattle.std.specs.Fn.{Called}
use denote.Param.Members.{Mut}

module _ {F B : Type 0} (g : Mut F (ℕ × Unit {0}) B) (f : F) (Holds : ℕ → B → Type 0)
    (made : (x : ℕ) (y : B) (q : F) → Called g f (x, tt) y q → (q ≡ f) × Holds x y) where
  made_from : (ys : List B) (i n k : ℕ) → IsFromFnResultFrom g f ys i n → i ≤ k → k < i + n → (y : B) × ((d : B) → get_or ys k d ≡ y) × Holds k y
  made_from ys i zero k m a b = absurd (omega arith)
  made_from ys i (suc n) k m a b =
      let here = made i m.1 m.0 m.3 in
      elim (cases_eq k i) [
        | inl same ↦ rw same (m.1, m.2.1, here.1)
        | inr other ↦ made_from ys (i + 1) n k (subst (λ (q : F). IsFromFnResultFrom g q ys (i + 1) n) here.0 m.4) (omega arith) (omega arith)
      ]

pub made_at : {F B : Type 0} {g : Mut F (ℕ × Unit {0}) B} {f : F} (ys : List B) → IsFromFnResult g f ys 512 → (Holds : ℕ → B → Type 0) →
    ((x : ℕ) (y : B) (q : F) → Called g f (x, tt) y q → (q ≡ f) × Holds x y) → (k : ℕ) (d : B) → k < 512 → Holds k (get_or ys k d)
made_at {g = g} {f = f} ys m Holds made k d l =
    let w = made_from g f Holds made ys 0 512 k m.each (omega arith) l in rw (w.1 d) w.2
