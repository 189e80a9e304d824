-- An array that is made by a closure that stays as it was. Assumes nothing.
use Rattle.std.proofs.Common.{◌≡◌, ℕ, zero, suc, ◌+◌, ◌<◌, ◌≤◌, List, length, get_or, subst, ◌∙◌, inl, inr, arith}
use Rattle.std.proofs.lemmas.Bool.{cases_lt}
use Rattle.std.proofs.lemmas.List.{get_or_past}
use Rattle.std.specs.Array.{IsFromFnResult, IsFromFnResultFrom}
use Rattle.std.specs.Fn.{Called}
use denote.Param.Members.{Mut}

module _ {F B : Type 0} (g : Mut F (ℕ × Unit {0}) B) (f : F) (want : ℕ → B) (is : (i : ℕ) (y : B) (q : F) → Called g f (i, tt) y q → (q ≡ f) × (y ≡ want i)) (ys : List B) (d : B) where
  made_from : (i n : ℕ) → IsFromFnResultFrom g f ys i n → (v : ℕ) → i ≤ v → v < i + n → get_or ys v d ≡ want v
  made_from i zero h v l m = absurd (omega arith)
  made_from i (suc n) h v l m =
      let one : (h.0 ≡ f) × (h.1 ≡ want i) = is i h.1 h.0 h.3 in
      elim (cases_lt i v) [
        | inl below ↦ made_from (i + 1) n (subst (λ (p : F). IsFromFnResultFrom g p ys (i + 1) n) one.0 h.4) v (omega arith) (omega arith)
        | inr above ↦
            let e : v ≡ i = omega arith in
            let now : get_or ys i d ≡ want i = h.2.1 d ∙ one.1 in
            rw e now
      ]

  -- what it reads at each number, where there is d past its end
  pub made_of : (n : ℕ) → IsFromFnResult g f ys n → ((v : ℕ) → n ≤ v → d ≡ want v) → (v : ℕ) → get_or ys v d ≡ want v
  made_of n h past v = elim (cases_lt v n) [
    | inl l ↦ made_from 0 n h.each v (omega arith) (omega arith)
    | inr l ↦ let long : length ys ≡ n = h.long in get_or_past ys v d (omega arith) ∙ past v l
  ]
