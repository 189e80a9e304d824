-- Setting a bit joins a pair. Assumes nothing.
use Rattle.std.proofs.Common.{◌≡◌, ℕ, ◌-◌, ◌*◌, ◌/◌, ◌%◌, ◌^◌, ◌<◌, ◌≤◌, Bool, true, false, not, ◌&&◌, ◌||◌, eqb, ltb, leb, List, length, get_or, set, Ok, sym, refl, ap, ◌∙◌, arith, drop-set-lt}
use lib.Bits.{bit_or}
use Rattle.std.proofs.lemmas.Nat.{one_shl}
use Rattle.std.proofs.lemmas.Bool.{eqb-false, ne_eqb}
use Rattle.std.proofs.lemmas.Bool.Decides.{nat_tests}
use Rattle.graph.specs.Shape.{Shape}
use Rattle.graph.specs.Judging.{judged}
use Rattle.graph.specs.Joining.{same_pair, with_pair, judge_of, join_answer, join_meaning}
use Rattle.graph.specs.Stores.{open_pairs}
use Rattle.graph.specs.declared.pair.Pair.TheVariants.{Fresh}
use Rattle.graph.proofs.Joining.{fresh_pair, seen_fresh, added_answer, added_meaning}
use Rattle.graph.proofs.Pairs.{same_shape, two_inside}
use Rattle.graph.proofs.Stores.{open_with_pair}
use Rattle.matrix.specs.Layout.{cell, bit_at, bytes_for}
use Rattle.matrix.specs.Lawful.{matrix_lawful}
use Rattle.matrix.specs.Matrix.{matrix_shape, matrix_meaning, with_open_pairs, behind}
use Rattle.matrix.proofs.Digits.{bit_set}
use Rattle.matrix.proofs.Triangle.{cell_apart, cell_inside, place_byte}

-- the bytes with one more bit set
abbrev pub with_bit : List ℕ → ℕ → List ℕ
with_bit bytes i = set bytes (i / 8) (bit_or (get_or bytes (i / 8) 0) (2 ^ (i % 8)))

-- whether a and b are two different vertices
abbrev two : ℕ → ℕ → ℕ → Bool
two n a b = (ltb a n && ltb b n) && not (eqb a b)

pair_two : (n u v a b : ℕ) → u < n → v < n → eqb u v ≡ false → two n a b ≡ false → same_pair u v a b ≡ false
pair_two n u v a b hu hv ne h = grind (arith, nat_tests)

two_differ : (n a b : ℕ) → two n a b ≡ true → a ≡ b → ⊥
two_differ n a b h e = grind (arith, nat_tests)

added_bit : (t b p : Bool) → (t ≡ false → p ≡ false) → (t && (b || p)) ≡ ((t && b) || p)
added_bit t b p h = grind (arith, nat_tests)

same_bit : (t x y : Bool) → (t ≡ true → x ≡ y) → (t && x) ≡ (t && y)
same_bit true x y h = h refl
same_bit false x y h = refl

pub matrix_added : (n : ℕ) (bytes : List ℕ) (u v : ℕ) → u < n → v < n → eqb u v ≡ false → cell u v / 8 < length bytes →
    matrix_shape n (with_bit bytes (cell u v)) ≡ with_pair (matrix_shape n bytes) u v
matrix_added n bytes u v hu hv ne inside = same_shape n (λ w. ltb w n) (λ a b.
    same_bit (two n a b) (bit_at (with_bit bytes (cell u v)) (cell a b)) (bit_at bytes (cell a b) || same_pair u v a b)
    (λ t. bit_set bytes (cell u v) (cell a b) inside
    ∙ ap (λ (p : Bool). bit_at bytes (cell a b) || p) (cell_apart u v a b (eqb-false u v ne) (two_differ n a b t)))
    ∙ added_bit (two n a b) (bit_at bytes (cell a b)) (same_pair u v a b) (pair_two n u v a b hu hv ne))

-- a pair that is not joined has room, and setting its bit is what join means
pub matrix_room : (n : ℕ) (bytes : List ℕ) (u v : ℕ) → 32 ≤ n → n ≤ 512 → judge_of (matrix_shape n bytes) u v ≡ Ok Fresh →
    eqb (matrix_meaning n bytes).free 0 ≡ false
matrix_room n bytes u v least most e =
    let k = fresh_pair (matrix_shape n bytes) u v e in
    let less = open_with_pair (matrix_shape n bytes) u v k.u_inside k.v_inside k.differ (matrix_lawful n bytes least most) k.unjoined in
    ne_eqb (open_pairs (matrix_shape n bytes)) 0 (λ z. omega arith)

pub matrix_answer : (n : ℕ) (bytes : List ℕ) (u v : ℕ) → 32 ≤ n → n ≤ 512 → judge_of (matrix_shape n bytes) u v ≡ Ok Fresh →
    Ok tt ≡ join_answer (matrix_meaning n bytes) u v
matrix_answer n bytes u v least most e =
    sym (added_answer (matrix_meaning n bytes) u v e (matrix_room n bytes u v least most e))

pub matrix_after : (n : ℕ) (bytes : List ℕ) (u v : ℕ) → 32 ≤ n → n ≤ 512 → judge_of (matrix_shape n bytes) u v ≡ Ok Fresh →
    cell u v / 8 < length bytes → matrix_meaning n (with_bit bytes (cell u v)) ≡ join_meaning (matrix_meaning n bytes) u v
matrix_after n bytes u v least most e inside =
    let s : Shape = matrix_shape n bytes in
    let k = fresh_pair s u v e in
    let less = open_with_pair s u v k.u_inside k.v_inside k.differ (matrix_lawful n bytes least most) k.unjoined in
    let one_less : open_pairs (with_pair s u v) ≡ open_pairs s - 1 = omega arith in
    ap with_open_pairs (matrix_added n bytes u v k.u_inside k.v_inside k.differ inside)
    ∙ (ap (λ (f : ℕ). record { shape = with_pair s u v; free = f }) one_less
    ∙ sym (added_meaning (matrix_meaning n bytes) u v e (matrix_room n bytes u v least most e)))

-- what code writes is the bit
pub written_bit : (bytes : List ℕ) (p i : ℕ) → p ≡ i →
    set bytes (p / 8) (bit_or (get_or bytes (p / 8) 0) ((1 * 2 ^ (p % 8)) % 256)) ≡ with_bit bytes i
written_bit bytes p i e =
    let one : (1 * 2 ^ (p % 8)) % 256 ≡ 2 ^ (p % 8) = one_shl (p % 8) 8 (omega arith) in
    ap (λ (x : ℕ). set bytes (p / 8) (bit_or (get_or bytes (p / 8) 0) x)) one ∙ ap (with_bit bytes) e

-- a fresh pair's byte is one that the vertices need
pub fresh_byte : (n : ℕ) (bytes : List ℕ) (u v : ℕ) → judge_of (matrix_shape n bytes) u v ≡ Ok Fresh → cell u v / 8 < bytes_for n
fresh_byte n bytes u v e =
    let k = fresh_pair (matrix_shape n bytes) u v e in
    place_byte n (cell u v) (cell_inside u v n k.u_inside k.v_inside (eqb-false u v k.differ))

-- and the bytes behind those stay
pub behind_bit : (n : ℕ) (bytes : List ℕ) (i : ℕ) → i / 8 < bytes_for n → behind n (with_bit bytes i) ≡ behind n bytes
behind_bit n bytes i h = drop-set-lt (bytes_for n) bytes (i / 8) (bit_or (get_or bytes (i / 8) 0) (2 ^ (i % 8))) h

-- the matrix's own answers tell that a pair is fresh
pub matrix_fresh : (n : ℕ) (bytes : List ℕ) (u v : ℕ) (j : Bool) → j ≡ (matrix_shape n bytes).joined u v →
    Ok Fresh ≡ judged n u v (ltb u n && ltb v n) j → judge_of (matrix_shape n bytes) u v ≡ Ok Fresh
matrix_fresh n bytes u v j hj e =
    seen_fresh (matrix_shape n bytes) u v n (ltb u n) (ltb v n) j refl refl refl hj e

pub matrix_byte : (n : ℕ) (bytes : List ℕ) (u v p : ℕ) → judge_of (matrix_shape n bytes) u v ≡ Ok Fresh → p ≡ cell u v →
    bytes_for n ≤ length bytes → p / 8 < length bytes
matrix_byte n bytes u v p e i h = let inside = fresh_byte n bytes u v e in omega arith

-- the byte of any two different vertices
pub pair_byte : (n : ℕ) (bytes : List ℕ) (u v p : ℕ) → ((leb n u || leb n v) || eqb u v) ≡ false → p ≡ cell u v →
    bytes_for n ≤ length bytes → p / 8 < length bytes
pair_byte n bytes u v p e i h =
    let t = two_inside n u v e in
    let inside : cell u v / 8 < bytes_for n = place_byte n (cell u v) (cell_inside u v n t.0 t.1 t.2) in omega arith
