-- What a caller of `of` knows, whose test answers as p does: where all that pass p are in reach, the members are those.
use Rattle.std.proofs.Common.{◌≡◌, ℕ, ◌<◌, Bool, true, sym, ◌∙◌, inl, inr}
use Rattle.std.proofs.lemmas.Bool.{cases_Bool, cases_lt}
use Rattle.numbers.specs.Picking.{Picks}

pub picked : (answers : ℕ → Bool → Type 0) (n : ℕ) (member p : ℕ → Bool) → Picks answers n member
    → ((k : ℕ) (b : Bool) → answers k b → b ≡ p k) → ((k : ℕ) → p k ≡ true → k < n) → (k : ℕ) → member k ≡ p k
picked answers n member p made says within k =
    elim (cases_lt k n) [
      | inl l ↦ says k (member k) (made.inside k l)
      | inr h ↦ elim (cases_Bool (p k)) [
        | inl t ↦ says k (member k) (made.inside k (within k t))
        | inr f ↦ made.outside k h ∙ sym f
      ]
    ]
