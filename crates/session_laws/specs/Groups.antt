-- Groups as the calls make them: vertices that moves answered merged link. Assumes nothing.
use Rattle.std.specs.Prelude.{◌≡◌, ℕ, ◌+◌, ◌⊎◌, List, [], ◌∷◌}
use Rattle.session_laws.specs.Calls.{Outcome, refused, noted, marked, simplified, frozen, pushed, together, apart, merged, coloured}

-- whether an outcome is among a list of them
abbrev pub Answered : List Outcome → Outcome → Type 0
Answered [] o = ⊥
Answered (x ∷ xs) o = (x ≡ o) ⊎ Answered xs o

-- a group is a vertex with all that is linked to it
pub data Linked (os : List Outcome) : ℕ → ℕ → Type 0 where
  itself : (v : ℕ) → Linked os v v
  by_move : (m u v : ℕ) → Answered os (merged m u v) → Linked os u v
  back : {u v : ℕ} → Linked os u v → Linked os v u
  onwards : {u v w : ℕ} → Linked os u v → Linked os v w → Linked os u w

-- granted steps are those that bring a session nearer to its end: simplify, freeze, push, and merge where it merged
abbrev pub step : Outcome → ℕ
step (refused k) = 0
step (noted m u v) = 0
step (marked v) = 0
step (simplified v) = 1
step (frozen v) = 1
step (pushed v) = 1
step (together m) = 0
step (apart m) = 0
step (merged m u v) = 1
step (coloured register) = 0

abbrev pub note_granted : Outcome → ℕ
note_granted (refused k) = 0
note_granted (noted m u v) = 1
note_granted (marked v) = 0
note_granted (simplified v) = 0
note_granted (frozen v) = 0
note_granted (pushed v) = 0
note_granted (together m) = 0
note_granted (apart m) = 0
note_granted (merged m u v) = 0
note_granted (coloured register) = 0

abbrev pub total : (Outcome → ℕ) → List Outcome → ℕ
total f [] = 0
total f (o ∷ os) = f o + total f os
