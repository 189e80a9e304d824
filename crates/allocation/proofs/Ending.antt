-- A session that was driven to its end: it is a run of calls, and where the graph could be emptied, everything got a register.
-- Assumes nothing.
use Rattle.std.proofs.Common.{◌≡◌, ℕ, zero, suc, ◌+◌, ◌<◌, ◌≤◌, true, false, eqb, ltb, leb, List, [], ◌∷◌, ◌++◌, length, Some, None, Option, sym, refl, ap, ◌∙◌, inl, inr, arith}
use Rattle.std.proofs.lemmas.Bool.{cases_Bool, false≢true, and_parts, and_left, and_right, ne_eqb, ltb-true}
use Rattle.graph.proofs.Counting.{first_missed, count_none}
use Rattle.session_laws.specs.Bank.{among}
use Rattle.session_laws.specs.Base.{Opening, Base, SoundBase, base_of}
use Rattle.session_laws.specs.State.{State, opened, standing_graph, is_loose, has_pending, Emptiable}
use Rattle.session_laws.specs.Calls.{Call, simplify, freeze, push, merge}
use Rattle.session_laws.specs.Colouring.{register_of}
use Rattle.session_laws.specs.Grounds.{ColouredOn}
use Rattle.session_laws.specs.Invariants.{SoundState, AllLight}
use Rattle.session_laws.specs.Laws.{Proper}
use Rattle.session_laws.specs.Outcomes.{least_bytes}
use Rattle.session_laws.specs.Runs.{after}
use Rattle.session_laws.proofs.Colours.{colour_complete}
use Rattle.session_laws.proofs.Exactness.{grants, none_passes}
use Rattle.session_laws.proofs.Laws.{runs_keep}
use Rattle.session_laws.proofs.Runs.{opens_well, sound_run, emptied_run, light_run, after_more}
use Rattle.session_laws.proofs.Standing.{standing_lawful, loose_inside}
use Rattle.session_laws.proofs.Subgraphs.{some_light}
use Rattle.allocation.specs.Driving.{Policy, Run, granted, is_granted, to_simplify, to_merge, to_freeze, to_push, next_call, call_or, turned, driven, driven_out}
use Rattle.allocation.specs.Sessions.{Stage, preparing, run_of, stuck, left_out, group_left_out, spilled}

-- some calls lead to it
abbrev LedTo : Base → State → State → Type 0
LedTo b s end = (cs : List Call) × (end ≡ after b s cs)

turned_run : (b : Base) (r : Run) (o : Option Call) (end : State) → LedTo b (turned b r o).state end → LedTo b r.state end
turned_run b r None end rest = rest
turned_run b r (Some c) end rest = (c ∷ rest.0, rest.1)

driven_run : (policy : Policy) (b : Base) (fuel : ℕ) (r : Run) → LedTo b r.state (driven policy b fuel r).state
driven_run policy b zero r = ([], refl)
driven_run policy b (suc fuel) r =
    let o = next_call policy b r.state in
    turned_run b r o (driven policy b fuel (turned b r o)).state (driven_run policy b fuel (turned b r o))

-- a driven session is one run from its opening
pub run_led : (policy : Policy) (t : Stage) (o : Opening) → LedTo (base_of o) opened (run_of policy t o).state
unfolding run_of driven_out
run_led policy t o =
    let b = base_of o in
    let before = preparing o.bank.class t in
    let s = after b opened before in
    let rest = driven_run policy b (b.graph.size + length s.moves) (record { state = s; steps = 0 }) in
    (before ++ rest.0, rest.1 ∙ sym (after_more b before rest.0 opened))

none_first : (call : ℕ → Call) (o : Option ℕ) (other : Option Call) → call_or call o other ≡ None → (o ≡ None) × (other ≡ None)
none_first call None other e = (refl, e)
none_first call (Some v) other e = let z : ◌≡◌ {A = ℕ} 0 1 = cc in absurd (omega arith)

-- where no call is next, none of the four kinds is granted
pub record NoneGranted (b : Base) (s : State) : Type 0 where
  pub no_simplify : (v : ℕ) → v < b.graph.size → is_granted b s (simplify v) ≡ false
  pub no_merge : (m : ℕ) → m < length s.moves → is_granted b s (merge m least_bytes) ≡ false
  pub no_freeze : (v : ℕ) → v < b.graph.size → is_granted b s (freeze v) ≡ false

pub none_granted : (policy : Policy) (b : Base) (s : State) → next_call policy b s ≡ None → NoneGranted b s
unfolding next_call to_simplify to_merge to_freeze
none_granted policy b s e =
    let pushing = call_or push (to_push policy b s) None in
    let freezing = call_or freeze (to_freeze b s) pushing in
    let merging = call_or (λ m. merge m least_bytes) (to_merge b s) freezing in
    let one = none_first simplify (to_simplify b s) merging e in
    let two = none_first (λ m. merge m least_bytes) (to_merge b s) freezing one.1 in
    let three = none_first freeze (to_freeze b s) pushing two.1 in
    record {
      no_simplify = λ v l. first_missed (λ w. is_granted b s (simplify w)) b.graph.size 0 one.0 v (omega arith) (omega arith);
      no_merge = λ m l. first_missed (λ w. is_granted b s (merge w least_bytes)) (length s.moves) 0 two.0 m (omega arith) (omega arith);
      no_freeze = λ v l. first_missed (λ w. is_granted b s (freeze w)) b.graph.size 0 three.0 v (omega arith) (omega arith);
    }

-- a graph that can be emptied has a loose vertex of low degree, or none at all: so nothing is stuck
not_stuck : (b : Base) → SoundBase b → (s : State) → Emptiable b s → NoneGranted b s → (v : ℕ) → is_loose b s v ≡ true → ⊥
not_stuck b sb s e none v l =
    let u = some_light _ b.registers (standing_graph b s) (standing_lawful b sb s) e v l in
    let inside : u.0 < b.graph.size = loose_inside b sb s u.0 u.1 in
    elim (cases_Bool (has_pending s u.0)) [
      | inl waits ↦
          let o = (grants b sb s).freezes u.0 (record { is_light = u.2; stays_loose = u.1; waits_so = waits }) in
          false≢true (sym (none.no_freeze u.0 inside) ∙ ap granted o)
      | inr free ↦
          let o = (grants b sb s).simplifies u.0 (record { is_light = u.2; stays_loose = u.1; waits_so = free }) in
          false≢true (sym (none.no_simplify u.0 inside) ∙ ap granted o)
    ]

among_low : (b : Base) → SoundBase b → (r : ℕ) → among b.first b.registers r ≡ true → eqb r 255 ≡ false
among_low b sb r h =
    let p : r < b.first + b.registers = ltb-true r (b.first + b.registers) (and_parts (leb b.first r) (ltb r (b.first + b.registers)) h).1 in
    let low : b.first + b.registers ≤ 32 = sb.low in
    ne_eqb r 255 (λ e. omega arith)

-- What a class comes to at its end.
pub record Placed (b : Base) (s : State) : Type 0 where
  pub done : stuck b s ≡ false
  pub all : (v : ℕ) → left_out b s v ≡ false
  pub nothing : spilled b s ≡ 0

-- from a graph that can be emptied, whatever calls were made, everything gets a register
pub emptied_placed : (o : Opening) → Proper o → (cs : List Call) → Emptiable (base_of o) opened →
    NoneGranted (base_of o) (after (base_of o) opened cs) → Placed (base_of o) (after (base_of o) opened cs)
unfolding stuck spilled
emptied_placed o p cs e none =
    let b = base_of o in
    let s = after b opened cs in
    let w = opens_well o p in
    let sb : SoundBase b = w.base in
    let ss : SoundState b s = sound_run b sb cs opened w.state in
    let still : Emptiable b s = emptied_run b sb cs opened w.state e in
    let light : AllLight b s = light_run b sb cs opened w.state (λ v h. (runs_keep o p cs).never_pushes e v h) tt in
    let loose : (v : ℕ) → is_loose b s v ≡ true → ⊥ = not_stuck b sb s still none in
    let coloured : ColouredOn b s (register_of b s) = record { none_loose = loose; by_rule = refl } in
    let complete = colour_complete b sb s ss light (register_of b s) coloured in
    let out : (v : ℕ) → left_out b s v ≡ false = λ v. elim (cases_Bool (b.graph.stands v)) [
      | inl h ↦ and_right (b.graph.stands v) (eqb (register_of b s v) 255) (among_low b sb (register_of b s v) (complete v h))
      | inr h ↦ and_left (b.graph.stands v) (eqb (register_of b s v) 255) h
    ] in
    record {
      done = none_passes (is_loose b s) b.graph.size loose;
      all = out;
      nothing = count_none (group_left_out b s) b.graph.size (λ v _. and_left (left_out b s v) (eqb (s.table v) v) (out v));
    }
