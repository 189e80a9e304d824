-- From settled sets to what is live.
use Rattle.std.proofs.Common.{◌≡◌, ℕ, zero, suc, ◌≤◌, true, false, List, length, replicate, Decides, sym, refl, ◌∙◌, arith}
use Rattle.std.proofs.lemmas.Option.{slice_get_past}
use Rattle.code.specs.Codes.{rows_of}
use Rattle.code.specs.Rows.{Fields}
use Rattle.code.specs.declared.body.Code.{Code}
use Rattle.numbers.specs.Sets.{has}
use Rattle.numbers.specs.declared.number_set.NumberSet.{NumberSet}
use Rattle.liveness.specs.Families.{in_set, ahead, Sound, Closed}
use Rattle.liveness.specs.Live.{LiveBefore, LiveAfter}
use Rattle.liveness.proofs.Lawful.{least_of}
use Rattle.liveness.proofs.Members.{in_set_past}
use Rattle.liveness.proofs.Places.{ahead_past}
use Rattle.liveness.proofs.Sweeping.{ahead_found, ahead_from}
use Rattle.liveness.proofs.Sweeps.{few_rows}

pub in_none : (n : ℕ) (s : NumberSet) → ((v : ℕ) → has s v ≡ false) → (i v : ℕ) → in_set (replicate n s) i v ≡ false
unfolding in_set
in_none zero s empty i v = refl
in_none (suc n) s empty zero v = empty v
in_none (suc n) s empty (suc i) v = in_none n s empty i v

-- past the last row nothing is live, as past the last set
pub ahead_beyond : (code : Code) (before after : List NumberSet) → length after ≡ 512 → (i v : ℕ) → 512 ≤ i
    → in_set after i v ≡ ahead (rows_of code) i (λ j. in_set before j v)
ahead_beyond code before after whole i v past =
    let few = few_rows code in
    in_set_past after i v (omega arith) ∙ sym (ahead_past (rows_of code) i (slice_get_past (rows_of code) i (omega arith)) _)

module _ (rows : List Fields) (before : List NumberSet) (sound : Sound rows before) (closed : (i : ℕ) → Closed rows before i) where
  complete : (i v : ℕ) → LiveBefore rows i v → in_set before i v ≡ true
  complete =
      least_of rows (in_set before)
      (record { has_read = λ i v. (closed i).has_read v; has_later = λ i j v. (closed i).has_later j v })

  pub before_decides : (i v : ℕ) → Decides (in_set before i v) (LiveBefore rows i v)
  before_decides i v = (sound i v, complete i v)

  pub after_decides : (after : List NumberSet) → ((i v : ℕ) → in_set after i v ≡ ahead rows i (λ j. in_set before j v))
      → (i v : ℕ) → Decides (in_set after i v) (LiveAfter rows i v)
  after_decides after made i v = (
    (λ e. let found = ahead_found rows i (λ j. in_set before j v) (sym (made i v) ∙ e) in (found.0, found.1, sound found.0 v found.2)),
    (λ live. made i v ∙ ahead_from rows i (λ j. in_set before j v) live.0 live.1 (complete live.0 v live.2)),
  )
