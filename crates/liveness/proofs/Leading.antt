-- Ranks and ways: a settled rank is one less than the length of a shortest way.
use Rattle.std.proofs.Common.{◌≡◌, ℕ, zero, suc, ◌+◌, ◌<◌, ◌≤◌, Bool, true, false, cond, eqb, List, [], ◌∷◌, ◌++◌, length, get_or, take, drop, set, replicate, Some, sym, refl, ap, ◌∙◌, inl, inr, append_assoc, arith, length-take}
use Rattle.std.specs.List.{slice_get}
use Rattle.std.proofs.lemmas.List.{get_or_past, take_more_set, drop-set-lt, drop-drop}
use Rattle.std.proofs.lemmas.Option.{slice_get_past}
use Rattle.std.proofs.lemmas.Bool.{cases_lt, false≢true, or_cases, eqb-true, le-ltb}
use Rattle.code.specs.Rows.{Fields}
use Rattle.numbers.specs.Counting.{count}
use Rattle.numbers.proofs.Counting.{count_grows, count_le}
use Rattle.liveness.specs.Flow.{names, goes_on, reads, sets, follows}
use Rattle.liveness.specs.Live.{LiveBefore}
use Rattle.liveness.specs.Ranks.{rank, known, Led, Ranked, Level}
use Rattle.liveness.specs.Ways.{Way, Shortest}
use Rattle.liveness.specs.Ways.Way.{arrives, goes}
use Rattle.liveness.proofs.Lawful.{way_of_live}
use Rattle.liveness.proofs.Places.{follows_at, follows_past}

follows_within : (rows : List Fields) (i j : ℕ) → follows rows i j ≡ true → i < length rows
follows_within rows i j next =
    elim (cases_lt i (length rows)) [
      | inl l ↦ l
      | inr past ↦ absurd (false≢true (sym (follows_past rows i (slice_get_past rows i past) j) ∙ next))
    ]

-- where a row has no rank, fewer than 512 have one
not_all : (ranks : List ℕ) (i : ℕ) → i < 512 → 512 ≤ rank ranks i → count (known ranks) 512 < 512
not_all ranks i inside none =
    let less = count_grows (known ranks) (λ _. true) 512 i (λ _ _ _. refl) inside (le-ltb (rank ranks i) 512 none) refl in
    let most = count_le (λ _. true) 512 in
    omega arith

module _ (rows : List Fields) (v : ℕ) (ranks : List ℕ) (level : (i : ℕ) → Level rows v ranks i) where
  pub no_shorter : (i : ℕ) (way : List ℕ) → Way rows v i way → rank ranks i < length way
  no_shorter i way (arrives e) = let here : rank ranks i ≡ 0 = (level i).at_read e in omega arith
  no_shorter i way (goes {j = j} {rest = rest} kept next on) =
      let later : rank ranks j < length rest = no_shorter j rest on in
      let here : rank ranks i ≤ rank ranks j + 1 = (level i).at_kept j kept next in
      omega arith

  pub has_rank : Ranked rows v ranks → length rows ≤ 512 → (i : ℕ) (way : List ℕ) → Way rows v i way → rank ranks i < 512
  has_rank ranked few i way (arrives e) = let here : rank ranks i ≡ 0 = (level i).at_read e in omega arith
  has_rank ranked few i way (goes {j = j} {rest = rest} kept next on) =
      let later : rank ranks j < 512 = has_rank ranked few j rest on in
      let counts : rank ranks j < count (known ranks) 512 = ranked.counted j later in
      let here : rank ranks i ≤ rank ranks j + 1 = (level i).at_kept j kept next in
      let inside : i < length rows = follows_within rows i j next in
      elim (cases_lt (rank ranks i) 512) [
        | inl l ↦ l
        | inr none ↦ let fewer = not_all ranks i (omega arith) none in omega arith
      ]

-- no row has a rank yet
rank_none : (n i : ℕ) → rank (replicate n 512) i ≡ 512
unfolding rank
rank_none zero i = refl
rank_none (suc n) zero = refl
rank_none (suc n) (suc i) = rank_none n i

pub ranked_none : (rows : List Fields) (v n : ℕ) → Ranked rows v (replicate n 512)
ranked_none rows v n =
    record {
      most = λ i. let none = rank_none n i in omega arith;
      led = λ i l. let none = rank_none n i in absurd (omega arith);
      counted = λ i l. let none = rank_none n i in absurd (omega arith);
    }

pub rank_inside : (ranks : List ℕ) (i : ℕ) → rank ranks i < 512 → i < length ranks
unfolding rank
rank_inside ranks i l =
    elim (cases_lt i (length ranks)) [
      | inl inside ↦ inside
      | inr past ↦ let none : get_or ranks i 512 ≡ 512 = get_or_past ranks i 512 past in absurd (omega arith)
    ]

-- a row above rank 0 keeps the number, and a row of lower rank follows
pub led_on : (rows : List Fields) (v : ℕ) (ranks : List ℕ) (i : ℕ) → Level rows v ranks i → 0 < rank ranks i → Led rows v ranks i
    → (sets rows i v ≡ false) × ((j : ℕ) × (follows rows i j ≡ true) × (rank ranks j < rank ranks i))
led_on rows v ranks i level above (inl e) = let here : rank ranks i ≡ 0 = level.at_read e in absurd (omega arith)
led_on rows v ranks i level above (inr h) = h

pub led_end : (rows : List Fields) (v : ℕ) (ranks : List ℕ) (i : ℕ) → rank ranks i ≤ 0 → Led rows v ranks i → reads rows i v ≡ true
led_end rows v ranks i low (inl e) = e
led_end rows v ranks i low (inr h) = absurd (omega arith)

-- a row that follows and is not the target is the next one
module _ (rows : List Fields) (i : ℕ) (f : Fields) (at : slice_get rows i ≡ Some f) (at-rank : ℕ → ℕ) (j : ℕ) (next : follows rows i j ≡ true)
    (lower : at-rank j < at-rank i) where
  is_next : (on : Bool) → cond on (eqb j (i + 1)) false ≡ true → j ≡ i + 1
  is_next true e = eqb-true j (i + 1) e
  is_next false e = absurd (false≢true e)

  pub by_next : (names f.target j ≡ true → ⊥) → (follows rows i (i + 1) ≡ true) × (at-rank (i + 1) < at-rank i)
  by_next no_target =
      elim (or_cases (names f.target j) (cond (goes_on f) (eqb j (i + 1)) false) (sym (follows_at rows i f at j) ∙ next)) [
        | inl t ↦ absurd (no_target t)
        | inr n ↦
            let same : j ≡ i + 1 = is_next (goes_on f) n in
            (rw same at next, rw same at lower)
      ]

-- one row more on the way, written behind the others
module _ (rows : List Fields) (v : ℕ) (way : List ℕ) (len i : ℕ) (room : len < length way)
    (so_far : (rest : List ℕ) → Way rows v i rest → Way rows v 0 (take len way ++ rest)) where
  pub way_more : (j : ℕ) → sets rows i v ≡ false → follows rows i j ≡ true
      → (rest : List ℕ) → Way rows v j rest → Way rows v 0 (take (len + 1) (set way len i) ++ rest)
  way_more j kept next rest on =
      rw (take_more_set way len i room, append_assoc (take len way) (i ∷ []) rest) (so_far (i ∷ rest) (goes kept next on))

  pub way_whole : reads rows i v ≡ true → Way rows v 0 (take (len + 1) (set way len i))
  way_whole e = rw (take_more_set way len i room) (so_far (i ∷ []) (arrives e))

-- what is behind the way stays as it was
pub behind_more : (way start : List ℕ) (len i : ℕ) → drop len way ≡ drop len start → drop (len + 1) (set way len i) ≡ drop (len + 1) start
behind_more way start len i same =
    drop-set-lt (len + 1) way len i (omega arith) ∙ (sym (drop-drop 1 len way) ∙ (ap (drop 1) same ∙ drop-drop 1 len start))

pub shortest_of : (rows : List Fields) (v : ℕ) (ranks way : List ℕ) (n : ℕ) → ((i : ℕ) → Level rows v ranks i)
    → Way rows v 0 (take n way) → n ≤ rank ranks 0 + 1 → Shortest rows v (take n way)
shortest_of rows v ranks way n level leads short =
    record {
      leads = leads;
      least = λ other to.
          let longer : rank ranks 0 < length other = no_shorter rows v ranks level 0 other to in
          let taken = length-take n way in
          omega arith;
    }

pub not_live : (rows : List Fields) (v : ℕ) (ranks : List ℕ) → ((i : ℕ) → Level rows v ranks i) → Ranked rows v ranks → length rows ≤ 512
    → 512 ≤ rank ranks 0 → LiveBefore rows 0 v → ⊥
not_live rows v ranks level ranked few none live =
    let way = way_of_live rows 0 v live in
    let has = has_rank rows v ranks level ranked few 0 way.0 way.1 in
    omega arith
