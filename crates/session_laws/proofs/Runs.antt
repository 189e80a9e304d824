-- What one call adds to the laws, and runs of calls. Assumes nothing.
use Rattle.std.proofs.Common.{◌≡◌, ℕ, ◌+◌, ◌≤◌, List, [], ◌∷◌, ◌++◌, refl, ap, inl, inr, arith}
use Rattle.session_laws.specs.Base.{Base, SoundBase, base_of}
use Rattle.session_laws.specs.State.{State, Emptiable}
use Rattle.session_laws.specs.Calls.{Call, Outcome, pushed}
use Rattle.session_laws.specs.Outcomes.{outcome}
use Rattle.session_laws.specs.Runs.{called, after, outcomes}
use Rattle.session_laws.specs.Invariants.{SoundState, AllLight}
use Rattle.session_laws.specs.Groups.{Answered, step, note_granted, total}
use Rattle.session_laws.specs.Steps.{OpensWell, left_to_do, Keeps}
use Rattle.session_laws.proofs.Colours.{colour_sound, colour_complete}
use Rattle.session_laws.proofs.Emptied.{keeps_emptied, no_push}
use Rattle.session_laws.proofs.Granting.{grounds}
use Rattle.session_laws.proofs.Light.{keeps_light}
use Rattle.session_laws.proofs.Openings.{base_sound}
use Rattle.session_laws.proofs.Sound.{opened_sound, keeps_sound}
use Rattle.session_laws.proofs.ToDo.{less_to_do}

pub opens_well : OpensWell
opens_well o p =
    let sb = base_sound o p.lawful p.usable in
    record { base = sb; state = opened_sound (base_of o) sb; light = tt }

pub keeps : Keeps
keeps b sb s ss c =
    let g = grounds b sb s c in
    record {
      granted_on = g;
      sound = keeps_sound b sb s ss (outcome b s c) g;
      emptiable = keeps_emptied b sb s ss (outcome b s c) g;
      unpushed = λ e v i. no_push b sb s e v (rw i at g);
      light = λ n l. keeps_light b sb s ss (outcome b s c) g n l;
      registers = λ register i. colour_sound b sb s ss register (rw i at g);
      all_registers = λ register i l. colour_complete b sb s ss l register (rw i at g);
      less_to_do = less_to_do b sb s ss (outcome b s c) g;
    }

pub sound_run : (b : Base) → SoundBase b → (cs : List Call) (s : State) → SoundState b s → SoundState b (after b s cs)
sound_run b sb [] s ss = ss
sound_run b sb (c ∷ cs) s ss = sound_run b sb cs (called b s c) (keeps b sb s ss c).sound

pub emptied_run : (b : Base) → SoundBase b → (cs : List Call) (s : State) → SoundState b s → Emptiable b s → Emptiable b (after b s cs)
emptied_run b sb [] s ss e = e
emptied_run b sb (c ∷ cs) s ss e = emptied_run b sb cs (called b s c) (keeps b sb s ss c).sound ((keeps b sb s ss c).emptiable e)

pub light_run : (b : Base) → SoundBase b → (cs : List Call) (s : State) → SoundState b s →
    ((v : ℕ) → Answered (outcomes b s cs) (pushed v) → ⊥) → AllLight b s → AllLight b (after b s cs)
light_run b sb [] s ss n l = l
light_run b sb (c ∷ cs) s ss n l =
    light_run b sb cs (called b s c) (keeps b sb s ss c).sound (λ v h. n v (inr h)) ((keeps b sb s ss c).light (λ v h. n v (inl h)) l)

pub after_more : (b : Base) (cs ds : List Call) (s : State) → after b s (cs ++ ds) ≡ after b (after b s cs) ds
after_more b [] ds s = refl
after_more b (c ∷ cs) ds s = after_more b cs ds (called b s c)

pub outcomes_more : (b : Base) (cs ds : List Call) (s : State) → outcomes b s (cs ++ ds) ≡ outcomes b s cs ++ outcomes b (after b s cs) ds
outcomes_more b [] ds s = refl
outcomes_more b (c ∷ cs) ds s = ap (λ (os : List Outcome). outcome b s c ∷ os) (outcomes_more b cs ds (called b s c))

-- an outcome of a run comes of one call, after those before it
abbrev pub Came : Base → State → List Outcome → Outcome → Type 0
Came b s before o = (ds : List Call) × ((c : Call) × ((outcomes b s ds ≡ before) × (outcome b (after b s ds) c ≡ o)))

pub split : (b : Base) (cs : List Call) (s : State) (before later : List Outcome) (o : Outcome) →
    outcomes b s cs ≡ before ++ o ∷ later → Came b s before o
split b [] s [] later o e = absurd (let z : ◌≡◌ {A = ℕ} 0 1 = cc in omega arith)
split b [] s (p ∷ before) later o e = absurd (let z : ◌≡◌ {A = ℕ} 0 1 = cc in omega arith)
split b (c ∷ cs) s [] later o e = ([], (c, (refl, cc)))
split b (c ∷ cs) s (p ∷ before) later o e =
    let head : outcome b s c ≡ p = cc in
    let tail : outcomes b (called b s c) cs ≡ before ++ o ∷ later = cc in
    let r = split b cs (called b s c) before later o tail in
    let rest : outcomes b (called b s c) r.0 ≡ before = r.1.1.0 in
    (c ∷ r.0, (r.1.0, (cc, r.1.1.1)))

pub answered_split : (b : Base) (cs : List Call) (s : State) (o : Outcome) → Answered (outcomes b s cs) o →
    (ds : List Call) × ((c : Call) × (outcome b (after b s ds) c ≡ o))
answered_split b [] s o h = absurd h
answered_split b (c ∷ cs) s o h = elim h [
  | inl e ↦ ([], (c, e))
  | inr e ↦ let r = answered_split b cs (called b s c) o e in (c ∷ r.0, (r.1.0, r.1.1))
]

-- what the steps of a run leave to do
pub steps_run : (b : Base) → SoundBase b → (cs : List Call) (s : State) → SoundState b s →
    total step (outcomes b s cs) + left_to_do b (after b s cs) ≤ left_to_do b s + total note_granted (outcomes b s cs)
steps_run b sb [] s ss = omega arith
steps_run b sb (c ∷ cs) s ss =
    let k = keeps b sb s ss c in
    let one : step (outcome b s c) + left_to_do b (called b s c) ≤ left_to_do b s + note_granted (outcome b s c) = k.less_to_do in
    let rest : total step (outcomes b (called b s c) cs) + left_to_do b (after b (called b s c) cs) ≤
    left_to_do b (called b s c) + total note_granted (outcomes b (called b s c) cs) = steps_run b sb cs (called b s c) k.sound in
    omega arith
