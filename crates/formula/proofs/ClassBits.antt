-- The classes of the values, read and written.
use Rattle.std.proofs.Common.{◌≡◌, ℕ, zero, suc, ◌+◌, ◌-◌, ◌*◌, ◌/◌, ◌%◌, ◌^◌, ◌<◌, ◌≤◌, true, ltb, List, [], ◌∷◌, length, take, drop, refl, ap, arith, length-drop, length-take, pow_mono}
use Rattle.std.proofs.lemmas.Nat.{pow-add}
use Rattle.std.proofs.lemmas.Bool.{and_parts, ltb-true, lt-ltb, le-leb}
use Rattle.records.specs.Keeping.{Bytes, Stands, all_bytes}
use Rattle.fields.specs.Reading.{got, part}
use Rattle.records.proofs.Codec.{then_elim, checked_got}
use Rattle.records.proofs.FieldCodecs.{part_sound}
use Rattle.formula.specs.Headers.{number, whole_bytes, class_bits}
use Rattle.formula.specs.Keeping.{bytes_of}

pub length_bytes_of : (k n : ℕ) → length (bytes_of k n) ≡ k
length_bytes_of zero n = refl
length_bytes_of (suc k) n = ap suc (length_bytes_of k (n / 256))

-- bytes as a number, and the number as bytes
bytes_number : (xs : List ℕ) → all_bytes xs ≡ true → bytes_of (length xs) (number xs) ≡ xs
bytes_number [] ok = refl
bytes_number (x ∷ xs) ok =
    let parts = and_parts (ltb x 256) (all_bytes xs) ok in
    let less = ltb-true x 256 parts.0 in
    let low : (x + 256 * number xs) % 256 ≡ x = omega arith in
    let high : (x + 256 * number xs) / 256 ≡ number xs = omega arith in
    rw (low, high, bytes_number xs parts.1) refl

number_bytes : (k n : ℕ) → n < 2 ^ (8 * k) → number (bytes_of k n) ≡ n
number_bytes zero n less = omega arith
number_bytes (suc k) n less =
    let more : 8 * suc k ≡ 8 * k + 8 = omega arith in
    let wide : 2 ^ (8 * k + 8) ≡ 2 ^ (8 * k) * 256 = pow-add 2 (8 * k) 8 in
    let less' : n < 2 ^ (8 * k) * 256 = rw (more, wide) at less in
    let high : n / 256 < 2 ^ (8 * k) = omega arith in
    rw (number_bytes k (n / 256) high) (omega arith)

-- a part that stands at a place of the input lies within it
pub stands_fits : (input : List ℕ) (at : ℕ) (xs : List ℕ) → at ≤ length input → Stands input at xs → at + length xs ≤ length input
stands_fits input at xs inside stands =
    omega (arith, length-take (length xs) (drop at input), length-drop at input, ap length stands)

module _ (input : List ℕ) (bytes : Bytes input) (values at : ℕ) where
  pub bits_sound : (c q : ℕ) → class_bits values input at ≡ got c q
      → (q ≡ at + length (bytes_of (whole_bytes values) c)) × Stands input at (bytes_of (whole_bytes values) c) × (c < 2 ^ values)
  bits_sound c q e =
      then_elim (part (whole_bytes values) input at) _ c q e (λ xs p r e'.
      let s = part_sound input bytes (whole_bytes values) at xs p r in
      let t = checked_got (ltb (number xs) (2 ^ values)) 5 (p - 1) (number xs) c p q e' in
      let back : bytes_of (whole_bytes values) (number xs) ≡ xs = rw (← s.2) (bytes_number xs s.3) in
      rw (← t.1, ← t.2, back) (s.0, s.1, ltb-true (number xs) (2 ^ values) t.0))

  pub bits_complete : (c : ℕ) → at ≤ length input → c < 2 ^ values → Stands input at (bytes_of (whole_bytes values) c)
      → class_bits values input at ≡ got c (at + whole_bytes values)
  bits_complete c inside less stands =
      let long = length_bytes_of (whole_bytes values) c in
      let within : at + whole_bytes values ≤ length input = omega (arith, stands_fits input at (bytes_of (whole_bytes values) c) inside stands) in
      let is : take (whole_bytes values) (drop at input) ≡ bytes_of (whole_bytes values) c = rw long at stands in
      let bits : values ≤ 8 * whole_bytes values = omega arith in
      let high : 2 ^ values ≤ 2 ^ (8 * whole_bytes values) = pow_mono bits in
      let small : c < 2 ^ (8 * whole_bytes values) = omega arith in
      rw (le-leb (at + whole_bytes values) (length input) within, is, number_bytes (whole_bytes values) c small, lt-ltb c (2 ^ values) less) refl
