-- The row at a place: what is asked of it, and the bounds that it keeps.
use Rattle.std.proofs.Common.{◌≡◌, ℕ, ◌<◌, ◌≤◌, Bool, true, false, not, ◌&&◌, ◌||◌, List, Some, None, Option, refl, arith}
use Rattle.std.specs.List.{slice_get}
use Rattle.std.proofs.lemmas.Bool.{and_parts, ltb-true, lt-ltb}
use Rattle.code.specs.Fits.{below, row_fits}
use Rattle.code.specs.Rows.{Fields, fields}
use Rattle.code.specs.declared.row.Row.{Row}
use Rattle.numbers.specs.declared.number_set.NumberSet.{NumberSet}
use Rattle.liveness.specs.Families.{in_set, row_ahead, ahead, asked}
use Rattle.liveness.specs.Flow.{row_reads, row_sets, row_followed, reads, sets, follows}

module _ (rows : List Fields) (i : ℕ) (f : Fields) (at : slice_get rows i ≡ Some f) where
  pub reads_at : (v : ℕ) → reads rows i v ≡ row_reads f v
  unfolding reads
  reads_at v = rw at

  pub sets_at : (v : ℕ) → sets rows i v ≡ row_sets f v
  unfolding sets
  sets_at v = rw at

  pub follows_at : (j : ℕ) → follows rows i j ≡ row_followed f i j
  unfolding follows
  follows_at j = rw at

  pub ahead_at : (test : ℕ → Bool) → ahead rows i test ≡ row_ahead f i test
  unfolding ahead
  ahead_at test = rw at

  pub asked_at : (family : List NumberSet) (v : ℕ)
      → asked rows family i v ≡ (row_reads f v || (row_ahead f i (λ j. in_set family j v) && not (row_sets f v)))
  unfolding asked
  asked_at family v = rw (reads_at v, sets_at v, ahead_at (λ j. in_set family j v))

module _ (rows : List Fields) (i : ℕ) (past : slice_get rows i ≡ None) where
  pub reads_past : (v : ℕ) → reads rows i v ≡ false
  unfolding reads
  reads_past v = rw past

  pub follows_past : (j : ℕ) → follows rows i j ≡ false
  unfolding follows
  follows_past j = rw past

  pub ahead_past : (test : ℕ → Bool) → ahead rows i test ≡ false
  unfolding ahead
  ahead_past test = rw past

  pub asked_past : (family : List NumberSet) (v : ℕ) → asked rows family i v ≡ false
  unfolding asked
  asked_past family v = rw (reads_past v, ahead_past (λ j. in_set family j v))

wider : (low high : ℕ) (field : Option ℕ) → low ≤ high → below low field ≡ true → below high field ≡ true
wider low high None h e = refl
wider low high (Some x) h e =
    let small : x < low = ltb-true x low e in
    lt-ltb x high (omega arith)

second_part : (a b c : Bool) → (a && (b && c)) ≡ true → b ≡ true
second_part a b c h = (and_parts b c (and_parts a (b && c) h).1).0

third_part : (a b c d : Bool) → (a && (b && (c && d))) ≡ true → c ≡ true
third_part a b c d h = second_part b c d (and_parts a (b && (c && d)) h).1

-- the sources of a row are numbers that a set can hold
module _ (numbers reach : ℕ) (row : Row (List ℕ)) (narrow : numbers ≤ 512) (fits : row_fits numbers reach row ≡ true) where
  pub first_fits : below 512 (fields row).first ≡ true
  unfolding row_fits
  first_fits =
      wider numbers 512 (fields row).first narrow
      (second_part (below numbers (fields row).destination) (below numbers (fields row).first)
      (below numbers (fields row).second && below reach (fields row).target) fits)

  pub second_fits : below 512 (fields row).second ≡ true
  unfolding row_fits
  second_fits =
      wider numbers 512 (fields row).second narrow
      (third_part (below numbers (fields row).destination) (below numbers (fields row).first) (below numbers (fields row).second)
      (below reach (fields row).target) fits)
