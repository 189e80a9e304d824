-- What a loop over a set's members knows: each call gives one member more, and at the end all have been given.
use Rattle.std.proofs.Common.{◌≡◌, ℕ, ◌+◌, ◌-◌, ◌<◌, ◌≤◌, Bool, true, false, ◌&&◌, ◌||◌, eqb, ltb, Some, None, sym, inl, inr, arith}
use Rattle.std.proofs.lemmas.Bool.{cases_lt, cases_order}
use Rattle.std.proofs.lemmas.Bool.Decides.{nat_tests}
use Rattle.numbers.specs.Iterating.{source, place, given, Gives}
use Rattle.numbers.specs.Sets.{has}
use Rattle.numbers.specs.declared.members.Members.{Members}
use Rattle.numbers.proofs.Counting.{first_found, first_none}
use Rattle.numbers.proofs.Sets.{has_large}

pub given_none : (m : Members) (k : ℕ) → place m ≡ 0 → given m k ≡ false
given_none m k e = grind (arith, nat_tests)

-- one more found number among those that pass
found_one : (p : ℕ → Bool) (from n k : ℕ) → from ≤ n → p n ≡ true → ((j : ℕ) → from ≤ j → j < n → p j ≡ false)
    → (p k && ltb k (n + 1)) ≡ ((p k && ltb k from) || eqb k n)
found_one p from n k a t d =
    elim (cases_lt k from) [
      | inl l ↦ grind (arith, nat_tests)
      | inr h ↦
          elim (cases_order k n) [
            | inl e ↦ let here : p k ≡ true = cc in grind (arith, nat_tests)
            | inr o ↦
                elim o [
                  | inl l ↦ let off : p k ≡ false = d k h l in grind (arith, nat_tests)
                  | inr g ↦ grind (arith, nat_tests)
                ]
          ]
    ]

pub given_one : (m t : Members) (n k : ℕ) → Gives m (Some n) t → given t k ≡ (given m k || eqb k n)
given_one m t n k (same, e, (next, low, high, here)) =
    let found = first_found (has (source m)) (place m) (512 - place m) n (sym e) in
    rw (same, next) (found_one (has (source m)) (place m) n k low here found.3)

pub given_all : (m t : Members) (k : ℕ) → Gives m None t → given m k ≡ has (source m) k
given_all m t k (same, e, next) =
    elim (cases_lt k (place m)) [
      | inl l ↦ grind (arith, nat_tests)
      | inr h ↦
          let off : has (source m) k ≡ false =
          elim (cases_lt k 512) [
            | inl l ↦ first_none (has (source m)) (place m) (512 - place m) (sym e) k h (omega arith)
            | inr g ↦ has_large (source m) k g
          ] in
          rw off
    ]
