-- What holds in states that runs lead to. Assumes nothing.
use Rattle.std.proofs.Common.{◌≡◌, ℕ, List, [], ◌∷◌, ◌++◌, refl, ap, ◌∙◌, inl, inr}
use Rattle.session_laws.specs.Base.{Base}
use Rattle.session_laws.specs.State.{State, opened}
use Rattle.session_laws.specs.Calls.{Call, pushed}
use Rattle.session_laws.specs.Outcomes.{outcome}
use Rattle.session_laws.specs.Runs.{called, after, outcomes}
use Rattle.session_laws.specs.Invariants.{SoundState}
use Rattle.session_laws.specs.Groups.{Answered}
use Rattle.session_laws.specs.Reaching.{Reaches}
use Rattle.session_laws.proofs.Grouped.{answered_cases}
use Rattle.session_laws.proofs.Runs.{keeps, sound_run, emptied_run, light_run, after_more, outcomes_more, answered_split}
use Rattle.session_laws.proofs.Sound.{opened_sound}

one_more : (b : Base) (cs : List Call) (c : Call) (s : State) → after b opened cs ≡ s → after b opened (cs ++ c ∷ []) ≡ called b s c
one_more b cs c s e = after_more b cs (c ∷ []) opened ∙ ap (λ (t : State). called b t c) e

none_more : (b : Base) (cs : List Call) (c : Call) (s : State) → after b opened cs ≡ s → ((v : ℕ) → outcome b s c ≡ pushed v → ⊥) →
    ((v : ℕ) → Answered (outcomes b opened cs) (pushed v) → ⊥) → (v : ℕ) → Answered (outcomes b opened (cs ++ c ∷ [])) (pushed v) → ⊥
none_more b cs c s e ne none v h =
    elim (answered_cases (outcomes b opened cs) (outcome b (after b opened cs) c) (pushed v) (rw (outcomes_more b cs (c ∷ []) opened) at h)) [
      | inl before ↦ none v before
      | inr here ↦ ne v (rw e at here)
    ]

pub reaches : Reaches
reaches b sb = record {
  at_opening = record { calls = []; leads = refl };
  onwards = λ s c r. record { calls = r.calls ++ c ∷ []; leads = one_more b r.calls c s r.leads };
  sound = λ s r. rw r.leads at (sound_run b sb r.calls opened start);
  at_opening_unpushed = record { calls = []; leads = refl; no_push = λ v h. h };
  onwards_unpushed = λ s c ne r. record {
    calls = r.calls ++ c ∷ [];
    leads = one_more b r.calls c s r.leads;
    no_push = none_more b r.calls c s r.leads ne r.no_push;
  };
  light = λ s r. rw r.leads at (light_run b sb r.calls opened start r.no_push tt);
  unpushed = λ e s r. (
    record {
      calls = r.calls;
      leads = r.leads;
      no_push = λ v h.
          let c = answered_split b r.calls opened (pushed v) h in
          (keeps b sb (after b opened c.0) (sound_run b sb c.0 opened start) c.1.0
          ).unpushed (emptied_run b sb c.0 opened start e) v c.1.1;
    },
    rw r.leads at (emptied_run b sb r.calls opened start e),
  );
}
  where
    start : SoundState b opened
    start = opened_sound b sb
