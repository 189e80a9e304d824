-- How a session is driven: the first call that is granted, again and again, until none is. Assumes nothing.
use Rattle.std.specs.Prelude.{ℕ, zero, suc, ◌+◌, Bool, true, false, cond, ◌&&◌, length, Some, None, Option}
use Rattle.graph.specs.Counting.{first}
use Rattle.session_laws.specs.Base.{Base}
use Rattle.session_laws.specs.State.{State}
use Rattle.session_laws.specs.Calls.{Call, Outcome, simplify, freeze, push, merge, refused, noted, marked, simplified, frozen, pushed, together, apart, merged, coloured}
use Rattle.session_laws.specs.Groups.{step}
use Rattle.session_laws.specs.Outcomes.{outcome, least_bytes}
use Rattle.session_laws.specs.Runs.{called}

abbrev pub granted : Outcome → Bool
granted (refused k) = false
granted (noted m u v) = true
granted (marked v) = true
granted (simplified v) = true
granted (frozen v) = true
granted (pushed v) = true
granted (together m) = true
granted (apart m) = true
granted (merged m u v) = true
granted (coloured register) = true

abbrev pub is_granted : Base → State → Call → Bool
is_granted b s c = granted (outcome b s c)

-- A policy compares vertices for pushing: whether the key of the one is less than the key of the other.
abbrev pub Policy : Type 0
Policy = Base → State → ℕ → ℕ → Bool

abbrev pub kept_or : (ℕ → ℕ → Bool) → Bool → ℕ → Option ℕ → Option ℕ
kept_or less may v None = cond may (Some v) None
kept_or less may v (Some u) = cond (may && less v u) (Some v) (Some u)

-- of the numbers below n that may be taken, the one of least key, the lowest among equals
abbrev pub least : (ℕ → Bool) → (ℕ → ℕ → Bool) → ℕ → Option ℕ
least may less zero = None
least may less (suc n) = kept_or less (may n) n (least may less n)

-- the lowest vertex, or move, at which the call is granted
unfoldable pub to_simplify : Base → State → Option ℕ
to_simplify b s = first (λ v. is_granted b s (simplify v)) 0 b.graph.size

unfoldable pub to_merge : Base → State → Option ℕ
to_merge b s = first (λ m. is_granted b s (merge m least_bytes)) 0 (length s.moves)

unfoldable pub to_freeze : Base → State → Option ℕ
to_freeze b s = first (λ v. is_granted b s (freeze v)) 0 b.graph.size

unfoldable pub to_push : Policy → Base → State → Option ℕ
to_push policy b s = least (λ v. is_granted b s (push v)) (policy b s) b.graph.size

abbrev pub call_or : (ℕ → Call) → Option ℕ → Option Call → Option Call
call_or call None other = other
call_or call (Some v) other = Some (call v)

-- the call that is made next: the first of the four kinds, in this order, that is granted somewhere
unfoldable pub next_call : Policy → Base → State → Option Call
next_call policy b s =
    let pushing = call_or push (to_push policy b s) None in
    let freezing = call_or freeze (to_freeze b s) pushing in
    let merging = call_or (λ m. merge m least_bytes) (to_merge b s) freezing in
    call_or simplify (to_simplify b s) merging

-- A driven session: its state, and how many steps were granted (simplify, merged, freeze, push).
pub record Run : Type 0 where
  pub state : State
  pub steps : ℕ

abbrev pub one_on : Base → Run → Call → Run
one_on b r c = record { state = called b r.state c; steps = r.steps + step (outcome b r.state c) }

abbrev pub turned : Base → Run → Option Call → Run
turned b r None = r
turned b r (Some c) = one_on b r c

-- so many calls at most, each the one that is next
abbrev pub driven : Policy → Base → ℕ → Run → Run
driven policy b zero r = r
driven policy b (suc fuel) r = driven policy b fuel (turned b r (next_call policy b r.state))

-- enough calls that none is granted in the end: each takes a vertex away, merges two, or closes a move
unfoldable pub driven_out : Policy → Base → State → Run
driven_out policy b s = driven policy b (b.graph.size + length s.moves) (record { state = s; steps = 0 })
