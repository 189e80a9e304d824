-- One step of a sweep: what it adds is live, and where it adds nothing the sets are closed.
use Rattle.std.proofs.Common.{◌≡◌, ℕ, ◌+◌, ◌<◌, Bool, true, false, cond, not, ◌&&◌, ◌||◌, eqb, List, length, get_or, set, Some, None, Option, sym, refl, ◌∙◌, inl, inr}
use Rattle.std.specs.List.{slice_get}
use Rattle.std.proofs.lemmas.Bool.{cases_eq, false≢true, or_cases, or_left, or_right, and_parts, and_from, not-true, not_from_false, eq-eqb, eqb-true}
use Rattle.code.specs.Rows.{Fields}
use Rattle.numbers.specs.Sets.{has}
use Rattle.numbers.specs.declared.number_set.NumberSet.{NumberSet}
use Rattle.liveness.specs.Families.{in_set, target_passes, row_ahead, ahead, asked, Sound, Closed, lacking}
use Rattle.liveness.specs.Flow.{passes, names, goes_on, row_followed, reads, sets, follows}
use Rattle.liveness.specs.Live.{LiveBefore}
use Rattle.liveness.specs.Live.LiveBefore.{read_here, read_later}
use Rattle.liveness.proofs.Members.{in_set_at, in_set_same, in_set_other, lacking_less}

target_found : (test : ℕ → Bool) (o : Option ℕ) → target_passes o test ≡ true → (j : ℕ) × (names o j ≡ true) × (test j ≡ true)
target_found test None e = absurd (false≢true e)
target_found test (Some t) e = (t, eq-eqb t t refl, e)

target_from : (test : ℕ → Bool) (o : Option ℕ) (j : ℕ) → names o j ≡ true → test j ≡ true → target_passes o test ≡ true
target_from test None j n e = absurd (false≢true n)
target_from test (Some t) j n e = rw (eqb-true j t n) at e

next_found : (test : ℕ → Bool) (on : Bool) (i : ℕ) → cond on (test (i + 1)) false ≡ true
    → (cond on (eqb (i + 1) (i + 1)) false ≡ true) × (test (i + 1) ≡ true)
next_found test true i e = (eq-eqb (i + 1) (i + 1) refl, e)
next_found test false i e = absurd (false≢true e)

next_from : (test : ℕ → Bool) (on : Bool) (i j : ℕ) → cond on (eqb j (i + 1)) false ≡ true → test j ≡ true → cond on (test (i + 1)) false ≡ true
next_from test true i j n e = rw (eqb-true j (i + 1) n) at e
next_from test false i j n e = absurd (false≢true n)

row_found : (test : ℕ → Bool) (f : Fields) (i : ℕ) → row_ahead f i test ≡ true → (j : ℕ) × (row_followed f i j ≡ true) × (test j ≡ true)
row_found test f i e =
    elim (or_cases (target_passes f.target test) (cond (goes_on f) (test (i + 1)) false) e) [
      | inl t ↦ let found = target_found test f.target t in (found.0, or_left _ _ found.1, found.2)
      | inr n ↦ let found = next_found test (goes_on f) i n in (i + 1, or_right _ _ found.0, found.1)
    ]

row_from : (test : ℕ → Bool) (f : Fields) (i j : ℕ) → row_followed f i j ≡ true → test j ≡ true → row_ahead f i test ≡ true
row_from test f i j n e =
    elim (or_cases (names f.target j) (cond (goes_on f) (eqb j (i + 1)) false) n) [
      | inl t ↦ or_left (target_passes f.target test) (cond (goes_on f) (test (i + 1)) false) (target_from test f.target j t e)
      | inr m ↦ or_right (target_passes f.target test) (cond (goes_on f) (test (i + 1)) false) (next_from test (goes_on f) i j m e)
    ]

place_found : (test : ℕ → Bool) (o : Option Fields) (i : ℕ) → passes o (λ f. row_ahead f i test) ≡ true
    → (j : ℕ) × (passes o (λ f. row_followed f i j) ≡ true) × (test j ≡ true)
place_found test None i e = absurd (false≢true e)
place_found test (Some f) i e = row_found test f i e

place_from : (test : ℕ → Bool) (o : Option Fields) (i j : ℕ) → passes o (λ f. row_followed f i j) ≡ true → test j ≡ true
    → passes o (λ f. row_ahead f i test) ≡ true
place_from test None i j n e = absurd (false≢true n)
place_from test (Some f) i j n e = row_from test f i j n e

-- some following row passes a test exactly when `ahead` says so
module _ (rows : List Fields) (i : ℕ) (test : ℕ → Bool) where
  pub ahead_found : ahead rows i test ≡ true → (j : ℕ) × (follows rows i j ≡ true) × (test j ≡ true)
  unfolding ahead follows
  ahead_found e = place_found test (slice_get rows i) i e

  pub ahead_from : (j : ℕ) → follows rows i j ≡ true → test j ≡ true → ahead rows i test ≡ true
  unfolding ahead follows
  ahead_from j n e = place_from test (slice_get rows i) i j n e

module _ (rows : List Fields) (family : List NumberSet) (i : ℕ) where
  asked_live : Sound rows family → (v : ℕ) → asked rows family i v ≡ true → LiveBefore rows i v
  unfolding asked
  asked_live sound v e =
      elim (or_cases (reads rows i v) (ahead rows i (λ j. in_set family j v) && not (sets rows i v)) e) [
        | inl read ↦ read_here read
        | inr later ↦
            let parts = and_parts (ahead rows i (λ j. in_set family j v)) (not (sets rows i v)) later in
            let found = ahead_found rows i (λ j. in_set family j v) parts.0 in
            read_later found.0 (not-true (sets rows i v) parts.1) found.1 (sound found.0 v found.2)
      ]

  pub closed_when : ((v : ℕ) → asked rows family i v ≡ true → in_set family i v ≡ true) → Closed rows family i
  unfolding asked
  closed_when all =
      record {
        has_read = λ v read. all v (or_left (reads rows i v) (ahead rows i (λ j. in_set family j v) && not (sets rows i v)) read);
        has_later = λ j v kept next there. all v
            (or_right (reads rows i v) (ahead rows i (λ j. in_set family j v) && not (sets rows i v))
            (and_from (ahead rows i (λ j. in_set family j v)) (not (sets rows i v))
            (ahead_from rows i (λ j. in_set family j v) j next there) (not_from_false (sets rows i v) kept)));
      }

  -- the sets stay sound when the one of row i takes in what is asked for
  pub sound_more : (s : NumberSet) → i < length family → Sound rows family
      → ((v : ℕ) → has s v ≡ (in_set family i v || asked rows family i v)) → Sound rows (set family i s)
  sound_more s inside sound made k v e =
      elim (cases_eq k i) [
        | inl same ↦
            let here : has s v ≡ true = sym (in_set_same family i v s inside) ∙ (rw same at e) in
            elim (or_cases (in_set family i v) (asked rows family i v) (sym (made v) ∙ here)) [
              | inl old ↦ rw same (sound i v old)
              | inr new ↦ rw same (asked_live sound v new)
            ]
        | inr ne ↦ sound k v (sym (in_set_other family i k v s ne) ∙ e)
      ]

-- the set of one row, read from the row of sets
pub set_read : (family : List NumberSet) (i : ℕ) (d : NumberSet) → i < length family → (v : ℕ) → has (get_or family i d) v ≡ in_set family i v
set_read family i d inside v = sym (in_set_at family i v d inside)

-- one row's set as it was read, with what is asked for there, and the two taken together
module _ (rows : List Fields) (family : List NumberSet) (i : ℕ) (old fresh all : NumberSet)
    (at : (v : ℕ) → has old v ≡ in_set family i v) (new : (v : ℕ) → has fresh v ≡ asked rows family i v)
    (both : (v : ℕ) → has all v ≡ (has old v || has fresh v)) where
  -- where the two together are no more than the one, the sets are closed there
  pub closed_still : ((v : ℕ) → has all v ≡ has old v) → Closed rows family i
  closed_still same =
      closed_when rows family i (λ v e.
      sym (at v) ∙ (sym (same v) ∙ (both v ∙ or_right (has old v) (has fresh v) (new v ∙ e))))

  pub sound_taken : i < length family → Sound rows family → Sound rows (set family i all)
  sound_taken inside sound =
      sound_more rows family i all inside sound (λ v. let a = at v in let n = new v in let b = both v in cc)

  pub lacking_taken : i < length family → ((k : ℕ) × (has old k ≡ false) × (has all k ≡ true)) → lacking (set family i all) < lacking family
  lacking_taken inside more =
      lacking_less family i all more.0 inside
      (λ k e. both k ∙ or_left (has old k) (has fresh k) (at k ∙ e))
      (sym (at more.0) ∙ more.1) more.2
