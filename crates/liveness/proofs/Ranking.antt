-- One step of lowering ranks.
use Rattle.std.proofs.Common.{◌≡◌, ℕ, zero, suc, ◌+◌, ◌<◌, ◌≤◌, Bool, true, false, cond, eqb, ◌≢◌, List, [], ◌∷◌, length, set, Some, None, Option, sym, refl, ap, ◌∙◌, inl, inr, arith, get_or-set_other, get_or-set_same}
use Rattle.std.specs.List.{slice_get}
use Rattle.std.proofs.lemmas.Bool.{cases_Bool, cases_eq, cases_lt, false≢true, or_cases, or_left, or_right, eq-eqb, eqb-true, ltb-true, lt-ltb, le-ltb}
use Rattle.code.specs.Rows.{Fields}
use Rattle.numbers.specs.Counting.{count}
use Rattle.numbers.proofs.Counting.{count_mono, count_grows}
use Rattle.liveness.specs.Flow.{names, goes_on, row_reads, row_sets, row_followed}
use Rattle.liveness.specs.Ranks.{rank, known, target_rank, rank_ahead, row_rank, Led, Ranked, Level, sum_of}
use Rattle.liveness.proofs.Places.{reads_at, sets_at, follows_at}

pub rank_same : (ranks : List ℕ) (i r : ℕ) → i < length ranks → rank (set ranks i r) i ≡ r
unfolding rank
rank_same ranks i r inside = rw get_or-set_same

pub rank_other : (ranks : List ℕ) (i k r : ℕ) → k ≢ i → rank (set ranks i r) k ≡ rank ranks k
unfolding rank
rank_other ranks i k r ne = rw get_or-set_other

pub sum_less : (ranks : List ℕ) (i r : ℕ) → i < length ranks → r < rank ranks i → sum_of (set ranks i r) < sum_of ranks
unfolding sum_of rank
sum_less [] i r inside low = absurd (omega arith)
sum_less (s ∷ ranks) zero r inside low = omega arith
sum_less (s ∷ ranks) (suc i) r inside low =
    let less : sum_of (set ranks i r) < sum_of ranks = sum_less ranks i r (omega arith) low in
    omega arith

-- the least rank ahead is that of a row that follows, and no row that follows has a lower one
module _ (at : ℕ → ℕ) where
  target_is : (o : Option ℕ) → target_rank o at < 512 → (j : ℕ) × (names o j ≡ true) × (at j ≡ target_rank o at)
  target_is None l = absurd (omega arith)
  target_is (Some t) l = (t, eq-eqb t t refl, refl)

  target_least : (o : Option ℕ) (j : ℕ) → names o j ≡ true → target_rank o at ≤ at j
  target_least None j n = absurd (false≢true n)
  target_least (Some t) j n = let same = eqb-true j t n in rw same (omega arith)

  next_is : (on : Bool) (i : ℕ) → cond on (at (i + 1)) 512 < 512
      → (cond on (eqb (i + 1) (i + 1)) false ≡ true) × (at (i + 1) ≡ cond on (at (i + 1)) 512)
  next_is true i l = (eq-eqb (i + 1) (i + 1) refl, refl)
  next_is false i l = absurd (omega arith)

  next_least : (on : Bool) (i j : ℕ) → cond on (eqb j (i + 1)) false ≡ true → cond on (at (i + 1)) 512 ≤ at j
  next_least true i j n = let same = eqb-true j (i + 1) n in rw same (omega arith)
  next_least false i j n = absurd (false≢true n)

  pub ahead_is : (f : Fields) (i : ℕ) → rank_ahead f i at < 512 → (j : ℕ) × (row_followed f i j ≡ true) × (at j ≡ rank_ahead f i at)
  ahead_is f i l =
      let to : ℕ = target_rank f.target at in
      let next : ℕ = cond (goes_on f) (at (i + 1)) 512 in
      elim (cases_lt to next) [
        | inl low ↦
            let found = target_is f.target (omega arith) in
            (found.0, or_left (names f.target found.0) (cond (goes_on f) (eqb found.0 (i + 1)) false) found.1, omega (arith, found.2))
        | inr high ↦
            let found = next_is (goes_on f) i (omega arith) in
            (i + 1, or_right (names f.target (i + 1)) (cond (goes_on f) (eqb (i + 1) (i + 1)) false) found.0, omega (arith, found.1))
      ]

  pub ahead_least : (f : Fields) (i j : ℕ) → row_followed f i j ≡ true → rank_ahead f i at ≤ at j
  ahead_least f i j n =
      elim (or_cases (names f.target j) (cond (goes_on f) (eqb j (i + 1)) false) n) [
        | inl t ↦ let l = target_least f.target j t in omega arith
        | inr m ↦ let l = next_least (goes_on f) i j m in omega arith
      ]

-- the row at place i gets the rank r
module _ (rows : List Fields) (v : ℕ) (ranks : List ℕ) (i : ℕ) (f : Fields) (at : slice_get rows i ≡ Some f) (r : ℕ)
    (made : r ≡ row_rank f i v (rank ranks)) where
  when_read : row_reads f v ≡ true → r ≡ 0
  when_read e = made ∙ (rw e)

  when_set : row_reads f v ≡ false → row_sets f v ≡ true → r ≡ 512
  when_set e s = made ∙ (rw (e, s))

  when_kept : row_reads f v ≡ false → row_sets f v ≡ false → r ≡ rank_ahead f i (rank ranks) + 1
  when_kept e s = made ∙ (rw (e, s))

  pub level_when : rank ranks i ≤ r → Level rows v ranks i
  level_when low =
      record {
        at_read = λ e. let zero_rank : r ≡ 0 = when_read (sym (reads_at rows i f at v) ∙ e) in omega arith;
        at_kept = λ j kept next.
            let least : rank_ahead f i (rank ranks) ≤ rank ranks j = ahead_least (rank ranks) f i j (sym (follows_at rows i f at j) ∙ next) in
            elim (cases_Bool (row_reads f v)) [
              | inl e ↦ let zero_rank : r ≡ 0 = when_read e in omega arith
              | inr e ↦ let more : r ≡ rank_ahead f i (rank ranks) + 1 = when_kept e (sym (sets_at rows i f at v) ∙ kept) in omega arith
            ];
      }

  module _ (ranked : Ranked rows v ranks) (inside : i < length ranks) (within : i < 512) (low : r < rank ranks i) where
    never_higher : (k : ℕ) → rank (set ranks i r) k ≤ rank ranks k
    never_higher k =
        elim (cases_eq k i) [
          | inl same ↦ let now = rank_same ranks i r inside in rw same (omega arith)
          | inr other ↦ let now = rank_other ranks i k r other in omega arith
        ]

    led_here : Led rows v (set ranks i r) i
    led_here =
        let now : rank (set ranks i r) i ≡ r = rank_same ranks i r inside in
        let most : rank ranks i ≤ 512 = ranked.most i in
        elim (cases_Bool (row_reads f v)) [
          | inl e ↦ inl (reads_at rows i f at v ∙ e)
          | inr e ↦ elim (cases_Bool (row_sets f v)) [
            | inl s ↦ let none : r ≡ 512 = when_set e s in absurd (omega arith)
            | inr s ↦
                let more : r ≡ rank_ahead f i (rank ranks) + 1 = when_kept e s in
                let found = ahead_is (rank ranks) f i (omega arith) in
                let is : rank ranks found.0 ≡ rank_ahead f i (rank ranks) = found.2 in
                let lower : rank (set ranks i r) found.0 ≤ rank ranks found.0 = never_higher found.0 in
                inr (sets_at rows i f at v ∙ s, (found.0, follows_at rows i f at found.0 ∙ found.1, omega arith))
          ]
        ]

    led_other : (k : ℕ) → rank (set ranks i r) k ≡ rank ranks k → Led rows v ranks k → Led rows v (set ranks i r) k
    led_other k same (inl e) = inl e
    led_other k same (inr h) =
        let lower : rank (set ranks i r) h.1.0 ≤ rank ranks h.1.0 = never_higher h.1.0 in
        let low : rank ranks h.1.0 < rank ranks k = h.1.2 in
        inr (h.0, (h.1.0, h.1.1, omega arith))

    still_known : (k : ℕ) → k < 512 → known ranks k ≡ true → known (set ranks i r) k ≡ true
    still_known k _ e =
        let was : rank ranks k < 512 = ltb-true (rank ranks k) 512 e in
        let lower = never_higher k in
        lt-ltb (rank (set ranks i r) k) 512 (omega arith)

    -- as many rows as before have a rank, and one more where row i had none
    as_many : count (known ranks) 512 ≤ count (known (set ranks i r)) 512
    as_many = count_mono (known ranks) (known (set ranks i r)) 512 still_known

    one_more : rank ranks i ≡ 512 → count (known ranks) 512 < count (known (set ranks i r)) 512
    one_more none =
        let now : rank (set ranks i r) i ≡ r = rank_same ranks i r inside in
        count_grows (known ranks) (known (set ranks i r)) 512 i still_known within
        (le-ltb (rank ranks i) 512 (omega arith)) (lt-ltb (rank (set ranks i r) i) 512 (omega arith))

    counted_here : r < count (known (set ranks i r)) 512
    counted_here =
        let now : rank (set ranks i r) i ≡ r = rank_same ranks i r inside in
        let most : rank ranks i ≤ 512 = ranked.most i in
        elim (cases_lt (rank ranks i) 512) [
          | inl was ↦ let counts = ranked.counted i was in let many = as_many in omega arith
          | inr none ↦
              let more = one_more (omega arith) in
              elim (cases_Bool (row_reads f v)) [
                | inl e ↦ let zero_rank : r ≡ 0 = when_read e in omega arith
                | inr e ↦ elim (cases_Bool (row_sets f v)) [
                  | inl s ↦ let high : r ≡ 512 = when_set e s in absurd (omega arith)
                  | inr s ↦
                      let next : r ≡ rank_ahead f i (rank ranks) + 1 = when_kept e s in
                      let found = ahead_is (rank ranks) f i (omega arith) in
                      let is : rank ranks found.0 ≡ rank_ahead f i (rank ranks) = found.2 in
                      let counts : rank ranks found.0 < count (known ranks) 512 = ranked.counted found.0 (omega arith) in
                      omega arith
                ]
              ]
        ]

    pub ranked_lower : Ranked rows v (set ranks i r)
    ranked_lower =
        record {
          most = λ k. let lower = never_higher k in let most = ranked.most k in omega arith;
          led = λ k l.
              elim (cases_eq k i) [
                | inl same ↦ rw same led_here
                | inr other ↦
                    let now : rank (set ranks i r) k ≡ rank ranks k = rank_other ranks i k r other in
                    led_other k now (ranked.led k (omega arith))
              ];
          counted = λ k l.
              elim (cases_eq k i) [
                | inl same ↦
                    let now : rank (set ranks i r) k ≡ r = ap (rank (set ranks i r)) same ∙ rank_same ranks i r inside in
                    let here = counted_here in
                    omega arith
                | inr other ↦
                    let now : rank (set ranks i r) k ≡ rank ranks k = rank_other ranks i k r other in
                    let counts = ranked.counted k (omega arith) in
                    let many = as_many in
                    omega arith
              ];
        }
