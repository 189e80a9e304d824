-- Members of the sets in a row of sets, by place.
use Rattle.std.proofs.Common.{◌≡◌, ℕ, zero, suc, ◌<◌, ◌≤◌, true, false, not, ◌≢◌, List, [], ◌∷◌, length, get_or, set, refl, ap, ◌∙◌, inl, inr, arith, get_or-set_same, length-set}
use Rattle.std.proofs.lemmas.Option.{slice_get-get_or, slice_get_past}
use Rattle.std.proofs.lemmas.Bool.{not-true, not_from_true, not_from_false, cases_Bool, both_ways}
use Rattle.numbers.specs.Sets.{has}
use Rattle.numbers.specs.declared.number_set.NumberSet.{NumberSet}
use Rattle.numbers.specs.Counting.{count}
use Rattle.numbers.proofs.Counting.{count_grows}
use Rattle.numbers.proofs.Sets.{has_below, has_large}
use Rattle.liveness.specs.Families.{in_set, lacking}

pub in_set_past : (family : List NumberSet) (i v : ℕ) → length family ≤ i → in_set family i v ≡ false
unfolding in_set
in_set_past family i v past = rw (slice_get_past family i past)

pub in_set_at : (family : List NumberSet) (i v : ℕ) (d : NumberSet) → i < length family → in_set family i v ≡ has (get_or family i d) v
unfolding in_set
in_set_at family i v d inside = rw (slice_get-get_or family i d inside)

-- no set has a number of 512 or more
pub in_set_large : (family : List NumberSet) (i v : ℕ) → 512 ≤ v → in_set family i v ≡ false
unfolding in_set
in_set_large [] i v large = refl
in_set_large (s ∷ family) zero v large = has_large s v large
in_set_large (s ∷ family) (suc i) v large = in_set_large family i v large

pub in_set_same : (family : List NumberSet) (i v : ℕ) (s : NumberSet) → i < length family → in_set (set family i s) i v ≡ has s v
in_set_same family i v s inside =
    in_set_at (set family i s) i v s (omega (arith, length-set family i s)) ∙ ap (λ t. has t v) (get_or-set_same family i s s inside)

pub in_set_other : (family : List NumberSet) (i k v : ℕ) (s : NumberSet) → k ≢ i → in_set (set family i s) k v ≡ in_set family k v
unfolding in_set
in_set_other [] i k v s ne = refl
in_set_other (t ∷ family) zero zero v s ne = absurd (ne refl)
in_set_other (t ∷ family) zero (suc k) v s ne = refl
in_set_other (t ∷ family) (suc i) zero v s ne = refl
in_set_other (t ∷ family) (suc i) (suc k) v s ne = in_set_other family i k v s (λ e. ne (ap suc e))

-- a set with a member more lacks less
lacks_less : (s t : NumberSet) (m : ℕ) → ((k : ℕ) → has s k ≡ true → has t k ≡ true) → has s m ≡ false → has t m ≡ true
    → count (λ k. not (has t k)) 512 < count (λ k. not (has s k)) 512
lacks_less s t m keeps out inn =
    count_grows (λ k. not (has t k)) (λ k. not (has s k)) 512 m
    (λ k _ e. elim (cases_Bool (has s k)) [
      | inl yes-s ↦ absurd (both_ways (has t k) (not-true (has t k) e) (keeps k yes-s))
      | inr no-s ↦ not_from_false (has s k) no-s
    ])
    (has_below t m inn) (not_from_true (has t m) inn) (not_from_false (has s m) out)

pub lacking_less : (family : List NumberSet) (i : ℕ) (t : NumberSet) (m : ℕ) → i < length family
    → ((k : ℕ) → in_set family i k ≡ true → has t k ≡ true) → in_set family i m ≡ false → has t m ≡ true
    → lacking (set family i t) < lacking family
unfolding lacking in_set
lacking_less [] i t m inside keeps out inn = absurd (omega arith)
lacking_less (s ∷ family) zero t m inside keeps out inn =
    let less = lacks_less s t m keeps out inn in
    omega arith
lacking_less (s ∷ family) (suc i) t m inside keeps out inn =
    let less = lacking_less family i t m (omega arith) keeps out inn in
    omega arith
