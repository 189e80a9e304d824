-- A vertex's neighbours, below it in its own row and above it in later rows. Assumes nothing.
use Rattle.std.proofs.Common.{◌≡◌, ℕ, zero, suc, ◌+◌, ◌-◌, ◌/◌, ◌<◌, ◌≤◌, min, max, Bool, true, false, not, ◌&&◌, eqb, ltb, List, Some, None, Option, sym, refl, ap, ◌∙◌, inl, inr, add-zero, arith}
use Rattle.std.proofs.lemmas.Bool.{lt-ltb, le-ltb, ne_eqb, cases_eq}
use Rattle.graph.specs.Counting.{count, first}
use Rattle.graph.specs.Shape.{degree, next}
use Rattle.graph.proofs.Counting.{count_split, count_none, first_skip, first_same, first_split, first_moved, first_later, or_else, moved}
use Rattle.graph.proofs.Pairs.{eqb_same}
use Rattle.graph.proofs.Stores.{count_same}
use Rattle.matrix.specs.Layout.{triangle, cell, bit_at, bytes_for}
use Rattle.matrix.specs.Matrix.{matrix_shape}
use Rattle.matrix.specs.Rows.{between, above}
use Rattle.matrix.proofs.Triangle.{row_before, place_byte, triangle_suc, triangle_mono}

-- two different vertices are joined by their bit
joined_bit : (n : ℕ) (bytes : List ℕ) (u v : ℕ) → u < n → v < n → (u ≡ v → ⊥) → (matrix_shape n bytes).joined u v ≡ bit_at bytes (cell u v)
joined_bit n bytes u v hu hv ne = rw (lt-ltb u n hu, lt-ltb v n hv, ne_eqb u v ne)

pub joined_lower : (n : ℕ) (bytes : List ℕ) (u v : ℕ) → u < n → v < u → bit_at bytes (triangle u + v) ≡ (matrix_shape n bytes).joined u v
joined_lower n bytes u v hu h =
    let hi : max u v ≡ u = omega arith in
    let lo : min u v ≡ v = omega arith in
    sym (joined_bit n bytes u v hu (omega arith) (λ e. omega arith) ∙ rw (hi, lo))

pub joined_upper : (n : ℕ) (bytes : List ℕ) (u v : ℕ) → u < v → v < n → above bytes u v ≡ (matrix_shape n bytes).joined u v
joined_upper n bytes u v h hv =
    let hi : max u v ≡ v = omega arith in
    let lo : min u v ≡ u = omega arith in
    sym (joined_bit n bytes u v (omega arith) hv (λ e. omega arith) ∙ rw (hi, lo))

pub joined_own : (n : ℕ) (bytes : List ℕ) (u : ℕ) → (matrix_shape n bytes).joined u u ≡ false
joined_own n bytes u = never (ltb u n && ltb u n) (eqb u u) (bit_at bytes (cell u u)) (eqb_same u)
  where
    never : (a b c : Bool) → b ≡ true → ((a && not b) && c) ≡ false
    never true b c e = rw e
    never false b c e = refl

pub joined_outside : (n : ℕ) (bytes : List ℕ) (u v : ℕ) → n ≤ u → (matrix_shape n bytes).joined u v ≡ false
joined_outside n bytes u v h = rw (le-ltb u n h)

pub degree_outside : (n : ℕ) (bytes : List ℕ) (u : ℕ) → n ≤ u → 0 ≡ degree (matrix_shape n bytes) u
degree_outside n bytes u h = sym (count_none ((matrix_shape n bytes).joined u) n (λ k l. joined_outside n bytes u k h))

pub degree_rows : (n : ℕ) (bytes : List ℕ) (u : ℕ) → u < n →
    between (bit_at bytes) (triangle u) (triangle u + u) + between (above bytes u) (u + 1) n ≡ degree (matrix_shape n bytes) u
degree_rows n bytes u hu =
    let q : ℕ → Bool = (matrix_shape n bytes).joined u in
    let rest : ℕ = n - (u + 1) in
    let size : n ≡ (u + 1) + rest = omega arith in
    let width : (triangle u + u) - triangle u ≡ u = omega arith in
    let lower : between (bit_at bytes) (triangle u) (triangle u + u) ≡ count q u =
    ap (count (λ k. bit_at bytes (triangle u + k))) width
    ∙ count_same (λ k. bit_at bytes (triangle u + k)) q u (λ k l. joined_lower n bytes u k hu l) in
    let upper : between (above bytes u) (u + 1) n ≡ count (λ k. q ((u + 1) + k)) rest =
    count_same (λ k. above bytes u ((u + 1) + k)) (λ k. q ((u + 1) + k)) rest
    (λ k l. joined_upper n bytes u ((u + 1) + k) (omega arith) (omega arith)) in
    let own : q (u + 0) ≡ false = ap q (add-zero u) ∙ joined_own n bytes u in
    let here : count (λ k. q (u + k)) 1 ≡ 0 = rw own in
    let first_part : count q (u + 1) ≡ count q u + count (λ k. q (u + k)) 1 = count_split q u 1 in
    let whole : count q ((u + 1) + rest) ≡ count q (u + 1) + count (λ k. q ((u + 1) + k)) rest = count_split q (u + 1) rest in
    let all : count q n ≡ count q ((u + 1) + rest) = ap (count q) size in
    omega arith

-- the byte of a place in row v, and of one in row u
pub row_byte : (n u v : ℕ) → u < v → v < n → (triangle v + u) / 8 < bytes_for n
row_byte n u v h hv = place_byte n (triangle v + u) (row_before v u n h hv)

pub row_end : (n u : ℕ) → u < n → triangle u + u ≤ triangle n
row_end n u h =
    let step : triangle (suc u) ≡ triangle u + u = triangle_suc u in
    let later : triangle (suc u) ≤ triangle n = triangle_mono (suc u) n h in
    omega arith

pub next_outside : (n : ℕ) (bytes : List ℕ) (u from : ℕ) → n ≤ u → None ≡ next (matrix_shape n bytes) u from
next_outside n bytes u from h =
    let none : n - (from + n) ≡ zero = omega arith in
    sym (first_skip ((matrix_shape n bytes).joined u) n from n (λ k a b. joined_outside n bytes u k h) ∙ rw none)

-- from above u on
pub next_above : (n : ℕ) (bytes : List ℕ) (u from : ℕ) → u < from →
    first (above bytes u) from (n - from) ≡ next (matrix_shape n bytes) u from
next_above n bytes u from h =
    first_same (above bytes u) ((matrix_shape n bytes).joined u) (n - from) from (λ j a b. joined_upper n bytes u j (omega arith) (omega arith))

-- u is not joined to itself
pub next_own : (n : ℕ) (bytes : List ℕ) (u : ℕ) → u < n → next (matrix_shape n bytes) u u ≡ next (matrix_shape n bytes) u (u + 1)
next_own n bytes u h = first_later ((matrix_shape n bytes).joined u) u n h (joined_own n bytes u)

-- below u, and then from u on
pub next_parts : (n : ℕ) (bytes : List ℕ) (u from : ℕ) → from ≤ u → u ≤ n →
    next (matrix_shape n bytes) u from ≡ or_else (first ((matrix_shape n bytes).joined u) from (u - from)) (next (matrix_shape n bytes) u u)
next_parts n bytes u from h hu =
    let q : ℕ → Bool = (matrix_shape n bytes).joined u in
    let sum : n - from ≡ (u - from) + (n - u) = omega arith in
    let at : from + (u - from) ≡ u = omega arith in
    ap (first q from) sum ∙ (first_split q (u - from) (n - u) from ∙ ap (λ (x : ℕ). or_else (first q from (u - from)) (first q x (n - u))) at)

-- a search along the row, as a search among the vertices below u
pub row_search : (n : ℕ) (bytes : List ℕ) (u from : ℕ) → u < n → from ≤ u →
    first (bit_at bytes) (triangle u + from) ((triangle u + u) - (triangle u + from))
    ≡ moved (triangle u) (first ((matrix_shape n bytes).joined u) from (u - from))
row_search n bytes u from hu h =
    let width : (triangle u + u) - (triangle u + from) ≡ u - from = omega arith in
    ap (first (bit_at bytes) (triangle u + from)) width
    ∙ first_moved (bit_at bytes) ((matrix_shape n bytes).joined u) (triangle u) (u - from) from (λ j a b. joined_lower n bytes u j hu (omega arith))

-- what a search along the row found, as a vertex
pub row_found : (d place : ℕ) (o : Option ℕ) → Some place ≡ moved d o → (x : ℕ) × ((o ≡ Some x) × (place ≡ d + x))
row_found d place None e = let z : ◌≡◌ {A = ℕ} 0 1 = cc in absurd (omega arith)
row_found d place (Some x) e = (x, (refl, cc))

pub row_missed : (d : ℕ) (o : Option ℕ) → None ≡ moved d o → o ≡ None
row_missed d None e = refl
row_missed d (Some x) e = let z : ◌≡◌ {A = ℕ} 0 1 = cc in absurd (omega arith)

-- a vertex found below u is the next
pub next_found : (n : ℕ) (bytes : List ℕ) (u from row place : ℕ) → u < n → from ≤ u → row ≡ triangle u →
    Some place ≡ first (bit_at bytes) (row + from) ((row + u) - (row + from)) →
    (row ≤ place) × (Some (place - row) ≡ next (matrix_shape n bytes) u from)
next_found n bytes u from row place hu h er e =
    let q : ℕ → Bool = (matrix_shape n bytes).joined u in
    let here = e ∙ (ap (λ (r : ℕ). first (bit_at bytes) (r + from) ((r + u) - (r + from))) er ∙ row_search n bytes u from hu h) in
    let w = row_found (triangle u) place (first q from (u - from)) here in
    let x : ℕ = w.0 in
    let is : place ≡ triangle u + x = w.1.1 in
    let diff : place - row ≡ x = omega arith in (
      omega arith,
      ap Some diff ∙ sym (next_parts n bytes u from h (omega arith)
          ∙ ap (λ (o : Option ℕ). or_else o (next (matrix_shape n bytes) u u)) w.1.0),
    )

-- where none was found there, it comes above u
pub next_missed : (n : ℕ) (bytes : List ℕ) (u from row : ℕ) → u < n → from ≤ u → row ≡ triangle u →
    None ≡ first (bit_at bytes) (row + from) ((row + u) - (row + from)) →
    next (matrix_shape n bytes) u (u + 1) ≡ next (matrix_shape n bytes) u from
next_missed n bytes u from row hu h er e =
    let q : ℕ → Bool = (matrix_shape n bytes).joined u in
    let here = e ∙ (ap (λ (r : ℕ). first (bit_at bytes) (r + from) ((r + u) - (r + from))) er ∙ row_search n bytes u from hu h) in
    let none = row_missed (triangle u) (first q from (u - from)) here in
    sym (next_parts n bytes u from h (omega arith)
    ∙ (ap (λ (o : Option ℕ). or_else o (next (matrix_shape n bytes) u u)) none ∙ next_own n bytes u hu))

-- from u on
pub next_from_own : (n : ℕ) (bytes : List ℕ) (u from : ℕ) → u < n → u ≤ from →
    next (matrix_shape n bytes) u (max from (u + 1)) ≡ next (matrix_shape n bytes) u from
next_from_own n bytes u from hu h = elim (cases_eq u from) [
  | inl same ↦
      let more : max from (u + 1) ≡ u + 1 = omega arith in
      rw more (sym (ap (next (matrix_shape n bytes) u) (sym same) ∙ next_own n bytes u hu))
  | inr other ↦ let same : max from (u + 1) ≡ from = omega arith in rw same
]
