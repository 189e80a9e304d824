-- Past the last row nothing is asked for, so sweeps over the rows settle every place; and a whole sweep, one row after another from
-- the last to the first.
use Rattle.std.proofs.Common.{◌≡◌, ℕ, ◌-◌, ◌<◌, ◌≤◌, Bool, true, false, ◌||◌, List, length, None, sym, ap, ◌∙◌, inl, inr, arith}
use Rattle.std.specs.List.{slice_get}
use Rattle.std.proofs.lemmas.Option.{slice_get_past}
use Rattle.std.proofs.lemmas.Bool.{cases_Bool, cases_eq, cases_lt, or_cases, or_parts, false≢true}
use Rattle.code.specs.Codes.{rows_of}
use Rattle.code.specs.Rows.{Fields}
use Rattle.code.specs.declared.body.Code.{Code}
use Rattle.code.proofs.Asking.{code_length}
use Rattle.numbers.specs.declared.number_set.NumberSet.{NumberSet}
use Rattle.liveness.specs.Families.{Closed}
use Rattle.liveness.specs.Ranks.{Level}
use Rattle.liveness.proofs.Places.{reads_past, follows_past}

-- code has no more rows than there are sets
pub few_rows : (code : Code) → length (rows_of code) ≤ 512
few_rows code = rw (code_length code) (omega (arith, code.room, code.few))

-- nothing is asked for past the last row
closed_past : (rows : List Fields) (family : List NumberSet) (i : ℕ) → length rows ≤ i → Closed rows family i
closed_past rows family i past =
    record {
      has_read = λ v e. absurd (false≢true (sym (reads_past rows i (slice_get_past rows i past) v) ∙ e));
      has_later = λ j v _ e _. absurd (false≢true (sym (follows_past rows i (slice_get_past rows i past) j) ∙ e));
    }

pub level_past : (rows : List Fields) (v : ℕ) (ranks : List ℕ) (i : ℕ) → slice_get rows i ≡ None → Level rows v ranks i
level_past rows v ranks i past =
    record {
      at_read = λ e. absurd (false≢true (sym (reads_past rows i past v) ∙ e));
      at_kept = λ j _ e. absurd (false≢true (sym (follows_past rows i past j) ∙ e));
    }

pub level_all : (rows : List Fields) (v : ℕ) (ranks : List ℕ)
    → ((k : ℕ) → k < length rows → Level rows v ranks k) → (i : ℕ) → Level rows v ranks i
level_all rows v ranks inside i =
    elim (cases_lt i (length rows)) [ inl l ↦ inside i l | inr past ↦ level_past rows v ranks i (slice_get_past rows i past) ]

pub closed_all : (rows : List Fields) (family : List NumberSet)
    → ((k : ℕ) → k < length rows → Closed rows family k) → (i : ℕ) → Closed rows family i
closed_all rows family inside i =
    elim (cases_lt i (length rows)) [ inl l ↦ inside i l | inr past ↦ closed_past rows family i past ]

-- one row more of a sweep over n rows: r says whether its part changed, from `old` to `new`, and had whether one did before
module _ {A : Type 0} (measure : A → ℕ) (Settled : A → ℕ → Type 0) (n : ℕ) (old new : A) (r had : Bool)
    (still : r ≡ false → new ≡ old) (less : r ≡ true → measure new < measure old) where
  pub never_more : (start : ℕ) → measure old ≤ start → measure new ≤ start
  never_more start before =
      elim (cases_Bool r) [
        | inl changed ↦ let l = less changed in omega arith
        | inr same ↦ let e = ap measure (still same) in omega arith
      ]

  pub less_now : (start : ℕ) → measure old ≤ start → (had ≡ true → measure old < start) → (r || had) ≡ true → measure new < start
  less_now start before earlier e =
      elim (or_cases r had e) [
        | inl changed ↦ let l = less changed in omega arith
        | inr did ↦ let l = earlier did in let m = never_more (measure old) (omega arith) in omega arith
      ]

  pub settled_more : (place : ℕ) → (r ≡ false → Settled old (place - 1))
      → (had ≡ false → (k : ℕ) → place ≤ k → k < n → Settled old k)
      → (r || had) ≡ false → (k : ℕ) → place - 1 ≤ k → k < n → Settled new k
  settled_more place here earlier e k from inside =
      let parts = or_parts r had e in
      let moved : Settled old k → Settled new k = λ h. rw (still parts.0) h in
      elim (cases_eq k (place - 1)) [
        | inl same ↦ moved (rw same (here parts.0))
        | inr other ↦ moved (earlier parts.1 k (omega arith) inside)
      ]
