-- Paths of at most so many rows find all that is live. Assumes nothing.
use Rattle.std.proofs.Common.{◌≡◌, ℕ, zero, suc, ◌<◌, Bool, true, false, not, ◌&&◌, ◌⊎◌, List, length, Decides, sym, ◌∙◌, inl, inr, arith}
use Rattle.std.proofs.lemmas.Option.{slice_get_past}
use Rattle.std.proofs.lemmas.Bool.{cases_lt, cases_Bool, false≢true, not-true, not_from_false, and_parts, and_from, or_cases, or_left, or_right, true_from_ne_false}
use Rattle.code.specs.Rows.{Fields}
use Rattle.numbers.specs.Counting.{count, any}
use Rattle.numbers.proofs.Counting.{count_le, count_grows, any_found, any_false}
use Rattle.liveness.specs.Flow.{reads, sets, follows}
use Rattle.liveness.specs.Families.{ahead}
use Rattle.liveness.specs.Live.{LiveBefore, LiveAfter}
use Rattle.liveness.specs.Live.LiveBefore.{read_here, read_later}
use Rattle.liveness.specs.Laws.{Family}
use Rattle.liveness.proofs.Lawful.{least_of}
use Rattle.liveness.proofs.Places.{reads_past, ahead_past}
use Rattle.liveness.proofs.Sweeping.{ahead_found, ahead_from}
use Rattle.allocation.specs.Interference.{live_within, live_before, live_after}

module _ (rows : List Fields) (v : ℕ) where
  -- what lies on a path of so many rows
  abbrev on : ℕ → ℕ → Bool
  on k i = live_within k rows i v

  -- a path that goes on
  later : (k i j : ℕ) → sets rows i v ≡ false → follows rows i j ≡ true → on k j ≡ true → on (suc k) i ≡ true
  later k i j kept next there =
      or_right (reads rows i v) (not (sets rows i v) && ahead rows i (on k))
      (and_from (not (sets rows i v)) (ahead rows i (on k)) (not_from_false (sets rows i v) kept) (ahead_from rows i (on k) j next there))

  here : (k i : ℕ) → reads rows i v ≡ true → on (suc k) i ≡ true
  here k i read = or_left (reads rows i v) (not (sets rows i v) && ahead rows i (on k)) read

  -- the two ways in which a number is on a path
  split : (k i : ℕ) → on (suc k) i ≡ true →
      (reads rows i v ≡ true) ⊎ ((j : ℕ) × (sets rows i v ≡ false) × (follows rows i j ≡ true) × (on k j ≡ true))
  split k i e = elim (or_cases (reads rows i v) (not (sets rows i v) && ahead rows i (on k)) e) [
    | inl read ↦ inl read
    | inr on-later ↦
        let parts = and_parts (not (sets rows i v)) (ahead rows i (on k)) on-later in
        let found = ahead_found rows i (on k) parts.1 in
        inr (found.0, not-true (sets rows i v) parts.0, found.1, found.2)
  ]

  sound : (k i : ℕ) → on k i ≡ true → LiveBefore rows i v
  sound zero i e = absurd (false≢true e)
  sound (suc k) i e = elim (split k i e) [
    | inl read ↦ read_here read
    | inr further ↦ read_later further.0 further.1 further.2 (sound k further.0 further.3)
  ]

  longer : (k i : ℕ) → on k i ≡ true → on (suc k) i ≡ true
  longer zero i e = absurd (false≢true e)
  longer (suc k) i e = elim (split k i e) [
    | inl read ↦ here (suc k) i read
    | inr further ↦ later (suc k) i further.0 further.1 further.2 (longer k further.0 further.3)
  ]

  inside : (k i : ℕ) → on (suc k) i ≡ true → i < length rows
  inside k i e = elim (cases_lt i (length rows)) [
    | inl l ↦ l
    | inr past ↦ absurd (elim (split k i e) [
      | inl read ↦ false≢true (sym (reads_past rows i (slice_get_past rows i past) v) ∙ read)
      | inr further ↦ false≢true (sym (ahead_past rows i (slice_get_past rows i past) (on k)) ∙ ahead_from rows i (on k) further.0 further.2 further.3)
    ])
  ]

  -- one row more finds nothing new
  abbrev Settled : ℕ → Type 0
  Settled k = (i : ℕ) → on (suc k) i ≡ true → on k i ≡ true

  settled_on : (k : ℕ) → Settled k → Settled (suc k)
  settled_on k still i e = elim (split (suc k) i e) [
    | inl read ↦ here k i read
    | inr further ↦ later k i further.0 further.1 further.2 (still further.0 further.3)
  ]

  abbrev new : ℕ → ℕ → Bool
  new k i = on (suc k) i && not (on k i)

  settled_when : (k : ℕ) → any (new k) (length rows) ≡ false → Settled k
  settled_when k none i e = true_from_ne_false (on k i) (λ gone.
      false≢true (sym (any_false (new k) (length rows) i none (inside k i e)) ∙ and_from (on (suc k) i) (not (on k i)) e (not_from_false (on k i) gone)))

  -- a row more finds nothing new, or more rows
  more : (k : ℕ) → Settled k ⊎ (count (on k) (length rows) < count (on (suc k)) (length rows))
  more k = elim (cases_Bool (any (new k) (length rows))) [
    | inr none ↦ inl (settled_when k none)
    | inl some ↦
        let found = any_found (new k) (length rows) some in
        let parts = and_parts (on (suc k) found.0) (not (on k found.0)) found.2 in
        inr (count_grows (on k) (on (suc k)) (length rows) found.0 (λ i _. longer k i) found.1 (not-true (on k found.0) parts.1) parts.0)
  ]

  grown : (k : ℕ) → Settled k ⊎ (k < count (on (suc k)) (length rows))
  grown zero = elim (more 0) [
    | inl still ↦ inl still
    | inr many ↦ inr (omega arith)
  ]
  grown (suc k) = elim (grown k) [
    | inl still ↦ inl (settled_on k still)
    | inr before ↦ elim (more (suc k)) [
      | inl still ↦ inl still
      | inr many ↦ inr (omega arith)
    ]
  ]

  settled : Settled (length rows)
  settled = elim (grown (length rows)) [
    | inl still ↦ still
    | inr many ↦ let most = count_le (on (suc (length rows))) (length rows) in absurd (omega arith)
  ]

-- a path that reads in its first row has that row
read_inside : (rows : List Fields) (i v : ℕ) → reads rows i v ≡ true → 0 < length rows
read_inside rows i v e = let l : i < length rows = inside rows v 0 i (here rows v 0 i e) in omega arith

read_now : (rows : List Fields) (n i v : ℕ) → 0 < n → reads rows i v ≡ true → live_within n rows i v ≡ true
read_now rows zero i v some e = absurd (omega arith)
read_now rows (suc n) i v some e = here rows v n i e

family : (rows : List Fields) → Family rows (live_within (length rows) rows)
family rows = record {
  has_read = λ i v e. read_now rows (length rows) i v (read_inside rows i v e) e;
  has_later = λ i j v kept next there. settled rows v i (later rows v (length rows) i j kept next there);
}

pub before_decides : (rows : List Fields) (i v : ℕ) → Decides (live_before rows i v) (LiveBefore rows i v)
unfolding live_before
before_decides rows i v = (sound rows v (length rows) i, least_of rows (live_within (length rows) rows) (family rows) i v)

pub after_decides : (rows : List Fields) (i v : ℕ) → Decides (live_after rows i v) (LiveAfter rows i v)
unfolding live_after
after_decides rows i v = (
  λ e. let found = ahead_found rows i (λ j. live_before rows j v) e in (found.0, found.1, (before_decides rows found.0 v).0 found.2),
  λ l. ahead_from rows i (λ j. live_before rows j v) l.0 l.1 ((before_decides rows l.0 v).1 l.2),
)
