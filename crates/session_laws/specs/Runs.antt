-- What each outcome leaves, and runs of calls in any order. Assumes nothing.
use Rattle.std.specs.Prelude.{ℕ, min, max, true, false, cond, ◌||◌, List, [], ◌∷◌, ◌++◌, map, ◌==◌, slice_set}
use Rattle.session_laws.specs.Base.{Base}
use Rattle.session_laws.specs.State.{Move, State, move_at, waits}
use Rattle.session_laws.specs.Calls.{Call, Outcome, refused, noted, marked, simplified, frozen, pushed, together, apart, merged, coloured}
use Rattle.session_laws.specs.Outcomes.{outcome}

abbrev pub closed : Move → Move
closed m = record { one = m.one; other = m.other; pending = false }

-- the moves with the one numbered m closed
abbrev pub closing : State → ℕ → List Move
closing s m = slice_set s.moves m (closed (move_at s m))

-- the moves with all pending ones of the group v closed
abbrev pub closing_all : State → ℕ → List Move
closing_all s v = map (λ m. cond (waits s.table v m) (closed m) m) s.moves

-- the merge table with the group `from` gone into the group `into`
abbrev pub united : (ℕ → ℕ) → ℕ → ℕ → ℕ → ℕ
united table from into v = cond (table v == from) into (table v)

unfoldable pub left_by : State → Outcome → State
left_by s (refused k) = s
left_by s (noted m u v) = record {
  table = s.table;
  removed = s.removed;
  moves = s.moves ++ record { one = u; other = v; pending = true } ∷ [];
  temporary = s.temporary;
}
left_by s (marked v) = record {
  table = s.table;
  removed = s.removed;
  moves = s.moves;
  temporary = λ w. (w == v) || s.temporary w;
}
left_by s (simplified v) = record {
  table = s.table;
  removed = v ∷ s.removed;
  moves = s.moves;
  temporary = s.temporary;
}
left_by s (frozen v) = record {
  table = s.table;
  removed = s.removed;
  moves = closing_all s v;
  temporary = s.temporary;
}
left_by s (pushed v) = record {
  table = s.table;
  removed = v ∷ s.removed;
  moves = closing_all s v;
  temporary = s.temporary;
}
left_by s (together m) = record {
  table = s.table;
  removed = s.removed;
  moves = closing s m;
  temporary = s.temporary;
}
left_by s (apart m) = record {
  table = s.table;
  removed = s.removed;
  moves = closing s m;
  temporary = s.temporary;
}
left_by s (merged m u v) = record {
  table = united s.table (max (s.table u) (s.table v)) (min (s.table u) (s.table v));
  removed = s.removed;
  moves = closing s m;
  temporary = s.temporary;
}
left_by s (coloured register) = s

-- the state after one call
abbrev pub called : Base → State → Call → State
called b s c = left_by s (outcome b s c)

-- the state after a list of calls
abbrev pub after : Base → State → List Call → State
after b s [] = s
after b s (c ∷ cs) = after b (called b s c) cs

-- what came of each of a list of calls
abbrev pub outcomes : Base → State → List Call → List Outcome
outcomes b s [] = []
outcomes b s (c ∷ cs) = outcome b s c ∷ outcomes b (called b s c) cs
