-- Memory that is cleared means a graph without pairs. Assumes nothing.
use Rattle.std.proofs.Common.{◌≡◌, ℕ, zero, suc, ◌/◌, ◌%◌, ◌<◌, ◌≤◌, true, false, not, ◌&&◌, eqb, ltb, List, length, get_or, drop, replicate, Ok, sym, refl, ap, ◌∙◌, inl, inr, add-one, arith, length-append, length-drop}
use lib.ListN.{length-replicate, get_or-replicate, get_or-append}
use Rattle.std.proofs.lemmas.Bool.{and_parts, ltb-true, eqb-false, not-true, cases_Bool}
use Rattle.std.proofs.lemmas.Bool.Decides.{nat_tests}
use Rattle.graph.specs.Counting.{count}
use Rattle.graph.specs.Stores.{total, open_pairs, no_pairs, empty_store}
use Rattle.graph.proofs.Pairs.{same_shape}
use Rattle.matrix.specs.Layout.{triangle, cell, bit, bit_at, bytes_for, cleared, Room}
use Rattle.matrix.specs.Matrix.{matrix_shape, matrix_meaning, with_open_pairs, matrix_opening}
use Rattle.matrix.proofs.Digits.{bit_zero}
use Rattle.matrix.proofs.Triangle.{triangle_suc, cell_inside, place_byte}

pub cleared_length : (bytes : List ℕ) (k : ℕ) → k ≤ length bytes → length (cleared k bytes) ≡ length bytes
cleared_length bytes k h = simp (length-append, length-replicate, length-drop) (omega arith)

cleared_byte : (bytes : List ℕ) (k j : ℕ) → j < k → get_or (cleared k bytes) j 0 ≡ 0
cleared_byte bytes k j h =
    let inside : j < length (replicate k 0) = simp length-replicate h in
    get_or-append (replicate k 0) (drop k bytes) 0 j inside ∙ get_or-replicate k j 0 0 h

cleared_bit : (bytes : List ℕ) (k i : ℕ) → i / 8 < k → bit_at (cleared k bytes) i ≡ false
cleared_bit bytes k i h = ap (λ (w : ℕ). bit w (i % 8)) (cleared_byte bytes k (i / 8) h) ∙ bit_zero (i % 8)

no_bit : (n : ℕ) (bytes : List ℕ) (u v : ℕ) → (((ltb u n && ltb v n) && not (eqb u v)) && bit_at (cleared (bytes_for n) bytes) (cell u v)) ≡ false
no_bit n bytes u v = elim (cases_Bool ((ltb u n && ltb v n) && not (eqb u v))) [
  | inl t ↦
      let p = and_parts (ltb u n && ltb v n) (not (eqb u v)) t in
      let q = and_parts (ltb u n) (ltb v n) p.0 in
      let inside = cell_inside u v n (ltb-true u n q.0) (ltb-true v n q.1) (eqb-false u v (not-true (eqb u v) p.1)) in
      rw t (cleared_bit bytes (bytes_for n) (cell u v) (place_byte n (cell u v) inside))
  | inr f ↦ rw f
]

pub cleared_shape : (n : ℕ) (bytes : List ℕ) → matrix_shape n (cleared (bytes_for n) bytes) ≡ no_pairs n
cleared_shape n bytes = same_shape n (λ v. ltb v n) (no_bit n bytes)

count_all : (n : ℕ) → count (λ v. true) n ≡ n
count_all zero = refl
count_all (suc n) = let before : count (λ v. true) n ≡ n = count_all n in rw before (add-one n)

total_rows : (n : ℕ) → total (λ u. count (λ v. true) u) n ≡ triangle n
unfolding triangle
total_rows zero = refl
total_rows (suc n) =
    let before : total (λ u. count (λ v. true) u) n ≡ triangle n = total_rows n in
    let row : count (λ v. true) n ≡ n = count_all n in
    rw (before, row) (sym (triangle_suc n))

-- every pair is open in a graph without pairs
pub open_none : (n : ℕ) → open_pairs (no_pairs n) ≡ triangle n
open_none n = total_rows n

pub cleared_meaning : (n : ℕ) (bytes : List ℕ) → matrix_meaning n (cleared (bytes_for n) bytes) ≡ empty_store n (triangle n)
cleared_meaning n bytes = ap with_open_pairs (cleared_shape n bytes) ∙ ap (empty_store n) (open_none n)

-- what a granted opening tells
pub granted_room : (n length : ℕ) → Ok tt ≡ matrix_opening n length → Room n length
granted_room n length e = grind (arith, nat_tests)
