-- A run that goes on by one call. Assumes nothing.
use Rattle.std.proofs.Common.{◌≡◌, ℕ, ◌+◌, ◌<◌, List, [], ◌∷◌, ◌++◌, map, length, get_or, take, drop, set, Result, sym, ap, ◌∙◌, ap₂, arith}
use Rattle.std.proofs.lemmas.List.{map_more, map_push, take_more_set, drop-set-lt, drop_more}
use Rattle.session_laws.specs.Base.{Base}
use Rattle.session_laws.specs.State.{State, opened}
use Rattle.session_laws.specs.Outcomes.{outcome}
use Rattle.session_laws.specs.Runs.{called, after, outcomes}
use Rattle.session_laws.proofs.Runs.{after_more, outcomes_more}
use Rattle.replay.specs.Replaying.{call_of, answer_of, numbered}
use Rattle.replay.specs.declared.calls.Call.{Call}
use Rattle.replay.specs.declared.calls.Granted.{Granted}
use Rattle.kept.specs.declared.refusal.Refusal.{Refusal}

abbrev pub Answer : Type 0
Answer = Result Granted Refusal

-- after i calls: the state, the answers so far, and the places behind them
abbrev pub RunSoFar : Base → List Call → State → List Answer → List Answer → ℕ → Type 0
RunSoFar b calls state before answers i =
    (state ≡ after b opened (map call_of (take i calls))) ×
    (map numbered (take i answers) ≡ map answer_of (outcomes b opened (map call_of (take i calls)))) ×
    (drop i answers ≡ drop i before)

module _ (b : Base) (calls : List Call) (state : State) (before answers : List Answer) (i : ℕ) (d : Call) (in-calls : i < length calls)
    (in-answers : i < length answers) (in-before : i < length before) (so_far : RunSoFar b calls state before answers i) where
  more : map call_of (take (i + 1) calls) ≡ map call_of (take i calls) ++ call_of (get_or calls i d) ∷ []
  more = map_more call_of calls i d in-calls

  pub one_more : (next : State) (said : Answer) → next ≡ called b state (call_of (get_or calls i d)) → numbered said ≡ answer_of (outcome b state (call_of (get_or calls i d))) →
      RunSoFar b calls next before (set answers i said) (i + 1)
  one_more next said en es = (
    en ∙ (ap (λ (s : State). called b s (call_of (get_or calls i d))) so_far.0 ∙
        sym (ap (after b opened) more ∙ after_more b (map call_of (take i calls)) (call_of (get_or calls i d) ∷ []) opened)),
    ap (map numbered) (take_more_set answers i said in-answers) ∙ (map_push numbered (take i answers) said ∙ (ap₂ (λ (xs : List (Result Granted ℕ)) (x : Result Granted ℕ). xs ++ x ∷ []) so_far.1
        (es ∙ ap (λ (s : State). answer_of (outcome b s (call_of (get_or calls i d)))) so_far.0) ∙
        sym (ap (map answer_of) (ap (outcomes b opened) more ∙ outcomes_more b (map call_of (take i calls)) (call_of (get_or calls i d) ∷ []) opened) ∙
        map_push answer_of (outcomes b opened (map call_of (take i calls))) (outcome b (after b opened (map call_of (take i calls))) (call_of (get_or calls i d)))))),
    drop-set-lt (i + 1) answers i said (omega arith) ∙ tails said,
  )
    where
      tails : Answer → drop (i + 1) answers ≡ drop (i + 1) before
      tails e =
          let one : drop i answers ≡ get_or answers i e ∷ drop (i + 1) answers = drop_more answers i e in-answers in
          let two : drop i before ≡ get_or before i e ∷ drop (i + 1) before = drop_more before i e in-before in
          let both : get_or answers i e ∷ drop (i + 1) answers ≡ get_or before i e ∷ drop (i + 1) before = sym one ∙ (so_far.2 ∙ two) in
          cc
