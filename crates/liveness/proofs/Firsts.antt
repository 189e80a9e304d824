-- The lowest undefined value, from the sets of what is live before each row.
use Rattle.std.proofs.Common.{◌≡◌, ℕ, List, Some, None, Decides, Option, refl, inl, inr, arith, MatchOption}
use Rattle.std.proofs.lemmas.Bool.{both_ways, cases_lt}
use Rattle.code.specs.Rows.{Fields}
use Rattle.numbers.specs.Counting.{first}
use Rattle.numbers.specs.declared.number_set.NumberSet.{NumberSet}
use Rattle.numbers.proofs.Counting.{first_found, first_none}
use Rattle.liveness.specs.Families.{in_set}
use Rattle.liveness.specs.Laws.{AllDefined}
use Rattle.liveness.specs.Live.{LiveBefore}
use Rattle.liveness.specs.Ways.{LowestUndefined}
use Rattle.liveness.proofs.Members.{in_set_large}

module _ (rows : List Fields) (before : List NumberSet) (exact : (i v : ℕ) → Decides (in_set before i v) (LiveBefore rows i v)) where
  none_undefined : first (in_set before 0) 32 480 ≡ None → AllDefined rows
  none_undefined none v value live =
      elim (cases_lt v 512) [
        | inl small ↦ both_ways (in_set before 0 v) (first_none (in_set before 0) 32 480 none v value (omega arith)) ((exact 0 v).1 live)
        | inr large ↦ both_ways (in_set before 0 v) (in_set_large before 0 v large) ((exact 0 v).1 live)
      ]

  lowest_undefined : (v : ℕ) → first (in_set before 0) 32 480 ≡ Some v → LowestUndefined rows v
  lowest_undefined v some =
      let parts = first_found (in_set before 0) 32 480 v some in
      record {
        value = parts.0;
        live = (exact 0 v).0 parts.2;
        lowest = λ u value low live. both_ways (in_set before 0 u) (parts.3 u value low) ((exact 0 u).1 live);
      }

  by_cases : (r : Option ℕ) → first (in_set before 0) 32 480 ≡ r → MatchOption r (AllDefined rows) (LowestUndefined rows)
  by_cases None e = none_undefined e
  by_cases (Some v) e = lowest_undefined v e

  pub undefined_cases : MatchOption (first (in_set before 0) 32 480) (AllDefined rows) (LowestUndefined rows)
  undefined_cases = by_cases (first (in_set before 0) 32 480) refl
