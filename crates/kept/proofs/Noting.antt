-- A session after a note, whether or not there was room for it. Assumes nothing.
use Rattle.std.proofs.Common.{◌≡◌, ℕ, true, cond, ltb, length, Ok, Err, Result, sym, refl, ap, ◌∙◌}
use Rattle.std.proofs.lemmas.Bool.{lt-ltb, le-ltb, cond-true, cond-false}
use Rattle.session_laws.specs.Calls.{note, noted, refused}
use Rattle.session_laws.specs.Outcomes.{outcome, note_outcome, outcome_note}
use Rattle.session_laws.specs.Runs.{left_by}
use Rattle.kept.specs.Answers.{note_answer, number_of}
use Rattle.kept.specs.Moves.{moves_in, Added}
use Rattle.kept.specs.Sound.{SoundKept, state_over}
use Rattle.kept.specs.Kept.{base_of, state_of, ByRules}
use Rattle.kept.specs.declared.kept.Kept.{Kept}
use Rattle.kept.specs.declared.noted.Noted.{Noted}
use Rattle.kept.specs.declared.refusal.Refusal.{Refusal}
use Rattle.kept.proofs.After.{granted_on, moves_state, moves_sound, noted_state, noted_sound}
use Rattle.kept.proofs.Verdicts.{granted_rules}

module _ (k : Kept) (u v : ℕ) (moves : Noted)
    (both : note_outcome (base_of k) (state_of k) u v ≡ cond (ltb (length (state_of k).moves) 128) (noted (length (state_of k).moves) u v) (refused 16)) where
  said_is : (r : Result ℕ Refusal) → Added (record { one = u; other = v; pending = true }) (moves_in k.moves) (moves_in moves) r →
      note_answer u v r ≡ outcome (base_of k) (state_of k) (note u v)
  unfolding state_of
  said_is (Ok m) a = sym (outcome_note (base_of k) (state_of k) u v ∙ (both ∙ (cond-true _ _ _ (lt-ltb _ 128 a.0) ∙ ap (λ (i : ℕ). noted i u v) (sym a.1))))
  said_is (Err e) a = ap (λ x. refused (number_of x)) a.1 ∙ sym (outcome_note (base_of k) (state_of k) u v ∙ (both ∙ cond-false _ _ _ (le-ltb _ 128 a.0)))

  same_state : moves_in moves ≡ moves_in k.moves → (n : ℕ) → state_over k.standing k.removed moves k.temporaries ≡ left_by (state_of k) (refused n)
  unfolding state_of left_by
  same_state e n = moves_state k moves _ e

  pub added_sound : (r : Result ℕ Refusal) → Added (record { one = u; other = v; pending = true }) (moves_in k.moves) (moves_in moves) r →
      SoundKept k.standing k.removed moves k.temporaries
  unfolding left_by
  added_sound (Ok m) a = noted_sound k m u v moves a.2 (granted_on k (note u v) (noted m u v) (said_is (Ok m) a))
  added_sound (Err e) a = moves_sound k moves (refused 16) (same_state a.2 16) (λ w. refl) tt

  pub added_rules : (after : Kept) → base_of after ≡ base_of k → state_of after ≡ state_over k.standing k.removed moves k.temporaries →
      (r : Result ℕ Refusal) → Added (record { one = u; other = v; pending = true }) (moves_in k.moves) (moves_in moves) r → ByRules k after (note u v) (note_answer u v r)
  added_rules after eb es (Ok m) a = granted_rules k after (note u v) (noted m u v) (said_is (Ok m) a) eb (es ∙ noted_state k m u v moves a.2)
  added_rules after eb es (Err e) a =
      granted_rules k after (note u v) (refused (number_of e)) (said_is (Err e) a) eb (es ∙ same_state a.2 (number_of e))
