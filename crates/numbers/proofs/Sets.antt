-- What every set keeps to: its members are below 512.
use Rattle.std.proofs.Common.{◌≡◌, ℕ, ◌<◌, ◌≤◌, true, false, not, ◌&&◌, eqb, inl, inr, arith}
use Rattle.std.proofs.lemmas.Bool.{both_ways, cases_Bool, cases_lt, ne_eqb}
use Rattle.numbers.specs.Sets.{has}
use Rattle.numbers.specs.declared.number_set.NumberSet.{NumberSet}
use Rattle.numbers.proofs.Rows.{member_large}

pub has_large : (s : NumberSet) (k : ℕ) → 512 ≤ k → has s k ≡ false
unfolding has
has_large s k h = member_large s.words k s.whole h

pub has_below : (s : NumberSet) (k : ℕ) → has s k ≡ true → k < 512
has_below s k e =
    elim (cases_lt k 512) [ inl l ↦ l | inr h ↦ absurd (both_ways (has s k) (has_large s k h) e) ]

-- taking out a number that is too large for a set changes nothing
pub has_apart : (s : NumberSet) (n k : ℕ) → 512 ≤ n → has s k ≡ (has s k && not (eqb k n))
has_apart s n k h =
    elim (cases_Bool (has s k)) [
      | inl t ↦
          let below : k < 512 = has_below s k t in
          let other : eqb k n ≡ false = ne_eqb k n (λ e. omega arith) in
          rw (t, other)
      | inr f ↦ rw f
    ]
