-- The laws of live numbers, by induction over paths.
use Rattle.std.proofs.Common.{◌≡◌, ℕ, Bool, true, ◌⊎◌, List, [], ◌∷◌, refl, inl, inr}
use Rattle.std.proofs.lemmas.Bool.{cases_Bool, cases_lt}
use Rattle.code.specs.Rows.{Fields}
use Rattle.liveness.specs.Flow.{sets, follows}
use Rattle.liveness.specs.Joins.{moves, BothRegisters, JoinsAt, Joined, MoveEnds}
use Rattle.liveness.specs.Laws.{FromRow, Family, AllDefined, Laws}
use Rattle.liveness.specs.Live.{LiveBefore, LiveAfter, Reached}
use Rattle.liveness.specs.Live.LiveBefore.{read_here, read_later}
use Rattle.liveness.specs.Live.Reached.{at_first, one_on}
use Rattle.liveness.specs.Ways.{Way}
use Rattle.liveness.specs.Ways.Way.{arrives, goes}

only_from : (rows : List Fields) (i v : ℕ) → LiveBefore rows i v → FromRow rows i v
only_from rows i v (read_here h) = inl h
only_from rows i v (read_later j kept next live) = inr (kept, (j, next, live))

all_from : (rows : List Fields) (i v : ℕ) → FromRow rows i v → LiveBefore rows i v
all_from rows i v (inl h) = read_here h
all_from rows i v (inr h) = read_later h.1.0 h.0 h.1.1 h.1.2

pub way_of_live : (rows : List Fields) (i v : ℕ) → LiveBefore rows i v → (way : List ℕ) × Way rows v i way
way_of_live rows i v (read_here e) = (i ∷ [], arrives e)
way_of_live rows i v (read_later j kept next live) =
    let later = way_of_live rows j v live in
    (i ∷ later.0, goes kept next later.1)

live_of_way : (rows : List Fields) (v i : ℕ) (way : List ℕ) → Way rows v i way → LiveBefore rows i v
live_of_way rows v i way (arrives e) = read_here e
live_of_way rows v i way (goes {j = j} {rest = rest} kept next on) = read_later j kept next (live_of_way rows v j rest on)

pub least_of : (rows : List Fields) (member : ℕ → ℕ → Bool) → Family rows member → (i v : ℕ) → LiveBefore rows i v → member i v ≡ true
least_of rows member family i v (read_here h) = family.has_read i v h
least_of rows member family i v (read_later j kept next live) =
    family.has_later i j v kept next (least_of rows member family j v live)

-- a row that sets u, with another number v live after it: joined there, or its own move
at_set : (rows : List Fields) (i u v : ℕ) → (u ≡ v → ⊥) → (BothRegisters u v → ⊥) → sets rows i u ≡ true → LiveAfter rows i v
    → JoinsAt rows i u v ⊎ (moves rows i u v ≡ true)
at_set rows i u v other low set live =
    elim (cases_Bool (moves rows i u v)) [
      | inl move ↦ inr move
      | inr move ↦ inl (record { set_here = set; live_on = live; other = other; no_move = move; no_registers = low })
    ]

one_side : (rows : List Fields) (i u v : ℕ) → JoinsAt rows i u v ⊎ (moves rows i u v ≡ true) → Joined rows u v ⊎ MoveEnds rows u v
one_side rows i u v (inl h) = inl (i, inl h)
one_side rows i u v (inr h) = inr (i, inl h)

other_side : (rows : List Fields) (i u v : ℕ) → JoinsAt rows i v u ⊎ (moves rows i v u ≡ true) → Joined rows u v ⊎ MoveEnds rows u v
other_side rows i u v (inl h) = inl (i, inr h)
other_side rows i u v (inr h) = inr (i, inr h)

-- nothing but registers is live before the first row, and one of the two is none
at_start : (rows : List Fields) → AllDefined rows → (u v : ℕ) → (BothRegisters u v → ⊥) → LiveBefore rows 0 u → LiveBefore rows 0 v → ⊥
at_start rows defined u v low live-u live-v =
    elim (cases_lt u 32) [
      | inr high ↦ defined u high live-u
      | inl u-low ↦ elim (cases_lt v 32) [ inl v_low ↦ low (u-low, v_low) | inr high ↦ defined v high live-v ]
    ]

module _ (rows : List Fields) (defined : AllDefined rows) (u v : ℕ) (other : u ≡ v → ⊥) (low : BothRegisters u v → ⊥) where
  -- both are live after row i: it sets one of them, or both are live before it
  passed : (i j : ℕ) → follows rows i j ≡ true → LiveBefore rows j u → LiveBefore rows j v
      → (LiveBefore rows i u → LiveBefore rows i v → Joined rows u v ⊎ MoveEnds rows u v) → Joined rows u v ⊎ MoveEnds rows u v
  passed i j next live-u live-v before =
      elim (cases_Bool (sets rows i u)) [
        | inl set ↦ one_side rows i u v (at_set rows i u v other low set (j, next, live-v))
        | inr kept-u ↦ elim (cases_Bool (sets rows i v)) [
          | inl set ↦ other_side rows i u v (at_set rows i v u (λ e. other (cc)) (λ h. low (h.1, h.0)) set (j, next, live-u))
          | inr kept-v ↦ before (read_later j kept-u next live-u) (read_later j kept-v next live-v)
        ]
      ]

  apart_at : (i : ℕ) → Reached rows i → LiveBefore rows i u → LiveBefore rows i v → Joined rows u v ⊎ MoveEnds rows u v
  apart_at i at_first live-u live-v = absurd (at_start rows defined u v low live-u live-v)
  apart_at j (one_on i reached next) live-u live-v = passed i j next live-u live-v (apart_at i reached)

pub lawful : (rows : List Fields) → Laws rows
lawful rows =
    record {
      only = only_from rows;
      all = all_from rows;
      on_a_way = way_of_live rows;
      by_a_way = λ i v. live_of_way rows v i;
      least = least_of rows;
      both_ways = λ u v h. (h.0, elim h.1 [ inl j ↦ inr j | inr j ↦ inl j ]);
      never_self = λ u h. elim h.1 [ inl j ↦ j.other refl | inr j ↦ j.other refl ];
      apart = λ defined i u v reached other low live-u live-v. apart_at rows defined u v other low i reached live-u live-v;
    }
