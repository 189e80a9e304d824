-- A header is read exactly where its writing stands and it keeps the ranges.
use Rattle.std.proofs.Common.{◌≡◌, ℕ, ◌^◌, ◌<◌, ◌≤◌, true, ◌&&◌, ltb, leb, List, [], ◌∷◌, ◌++◌, length, ap, arith}
use Rattle.std.proofs.lemmas.Bool.{and_parts, and_from, leb-true, le-leb, lt-ltb}
use Rattle.code.specs.Writing.{two_bytes}
use Rattle.records.specs.Keeping.{Bytes, Stands}
use Rattle.fields.specs.Reading.{got, byte, two}
use Rattle.records.proofs.Codec.{Codec, and_checked, byte_codec, two_codec, then_elim, got_value, got_place}
use Rattle.records.proofs.Stands.{stands_next, stands_front, stands_back, stands_within}
use Rattle.formula.specs.Headers as headers
use Rattle.formula.specs.Headers.{ranged, class_bits, header_at, whole_bytes}
use Rattle.formula.specs.Keeping.{bytes_of}
use Rattle.formula.proofs.ClassBits.{bits_sound, bits_complete, length_bytes_of}

-- the bytes of a header
abbrev pub written : headers.Fields → List ℕ
written h = h.k0 ∷ h.k1 ∷ (two_bytes h.values ++ (two_bytes h.records ++ bytes_of (whole_bytes h.values) h.classes))

-- the ranges of its fields
pub record Ranges (h : headers.Fields) : Type 0 where
  pub k0_least : 1 ≤ h.k0
  pub k0_most : h.k0 ≤ 16
  pub k1_least : 1 ≤ h.k1
  pub k1_most : h.k1 ≤ 16
  pub few_values : h.values ≤ 96
  pub some_rows : 1 ≤ h.records
  pub few_rows : h.records ≤ 128
  pub class_bits : h.classes < 2 ^ h.values

within : (low high n : ℕ) → (leb low n && leb n high) ≡ true → (low ≤ n) × (n ≤ high)
within low high n e =
    let parts = and_parts (leb low n) (leb n high) e in
    (leb-true low n parts.0, leb-true n high parts.1)

inside : (low high n : ℕ) → low ≤ n → n ≤ high → (leb low n && leb n high) ≡ true
inside low high n h k = and_from (leb low n) (leb n high) (le-leb low n h) (le-leb n high k)

module _ (input : List ℕ) (bytes : Bytes input) where
  byte_ranged : (low high : ℕ) → Codec input (ranged low high (byte input)) (λ b. b ∷ []) (λ b. ltb b 256 && (leb low b && leb b high))
  byte_ranged low high = and_checked input (byte input) (λ b. b ∷ []) (λ b. ltb b 256) (λ n. leb low n && leb n high) 4 (byte_codec input bytes)

  two_ranged : (low high : ℕ) → Codec input (ranged low high (two input)) two_bytes (λ b. ltb b 65536 && (leb low b && leb b high))
  two_ranged low high = and_checked input (two input) two_bytes (λ b. ltb b 65536) (λ n. leb low n && leb n high) 4 (two_codec input bytes)

  pub header_sound : (h : headers.Fields) (q : ℕ) → header_at input ≡ got h q
      → (q ≡ length (written h)) × Stands input 0 (written h) × Ranges h
  unfolding header_at
  header_sound h q e =
      then_elim (ranged 1 16 (byte input) 0) _ h q e (λ k0 p₁ r₁ e₁.
      then_elim (ranged 1 16 (byte input) p₁) _ h q e₁ (λ k1 p₂ r₂ e₂.
      then_elim (ranged 0 96 (two input) p₂) _ h q e₂ (λ v p₃ r₃ e₃.
      then_elim (ranged 1 128 (two input) p₃) _ h q e₃ (λ n p₄ r₄ e₄.
      then_elim (class_bits v input p₄) _ h q e₄ (λ c p₅ r₅ e₅.
      let w₁ = (byte_ranged 1 16).sound 0 k0 p₁ r₁ in
      let w₂ = (byte_ranged 1 16).sound p₁ k1 p₂ r₂ in
      let w₃ = (two_ranged 0 96).sound p₂ v p₃ r₃ in
      let w₄ = (two_ranged 1 128).sound p₃ n p₄ r₄ in
      let w₅ = bits_sound input bytes v p₄ c p₅ r₅ in
      let i₁ = within 1 16 k0 (and_parts (ltb k0 256) (leb 1 k0 && leb k0 16) w₁.2).1 in
      let i₂ = within 1 16 k1 (and_parts (ltb k1 256) (leb 1 k1 && leb k1 16) w₂.2).1 in
      let i₃ = within 0 96 v (and_parts (ltb v 65536) (leb 0 v && leb v 96) w₃.2).1 in
      let i₄ = within 1 128 n (and_parts (ltb n 65536) (leb 1 n && leb n 128) w₄.2).1 in
      rw (← got_value e₅, ← got_place e₅) (
        omega (arith, w₁.0, w₂.0, w₃.0, w₄.0, w₅.0),
        stands_next input 0 p₁ (k0 ∷ []) _ w₁.0 w₁.1
            (stands_next input p₁ p₂ (k1 ∷ []) _ w₂.0 w₂.1
            (stands_next input p₂ p₃ (two_bytes v) _ w₃.0 w₃.1
            (stands_next input p₃ p₄ (two_bytes n) _ w₄.0 w₄.1 w₅.1))),
        record {
          k0_least = i₁.0;
          k0_most = i₁.1;
          k1_least = i₂.0;
          k1_most = i₂.1;
          few_values = i₃.1;
          some_rows = i₄.0;
          few_rows = i₄.1;
          class_bits = w₅.2;
        },
      ))))))

  pub header_complete : (h : headers.Fields) → Ranges h → Stands input 0 (written h) → header_at input ≡ got h (length (written h))
  unfolding header_at
  header_complete h k stands =
      let bits = bytes_of (whole_bytes h.values) h.classes in
      let t₄ = two_bytes h.records ++ bits in
      let t₃ = two_bytes h.values ++ t₄ in
      let s₁ = stands_back input 0 (h.k0 ∷ []) (h.k1 ∷ t₃) stands in
      let s₂ = stands_back input 1 (h.k1 ∷ []) t₃ s₁ in
      let s₃ = stands_back input 2 (two_bytes h.values) t₄ s₂ in
      let s₄ = stands_back input 4 (two_bytes h.records) bits s₃ in
      let e₁ = (byte_ranged 1 16).complete 0 h.k0
      (and_from _ _ (lt-ltb h.k0 256 (omega (arith, k.k0_most))) (inside 1 16 h.k0 k.k0_least k.k0_most))
      (stands_front input 0 (h.k0 ∷ []) (h.k1 ∷ t₃) stands) in
      let e₂ = (byte_ranged 1 16).complete 1 h.k1
      (and_from _ _ (lt-ltb h.k1 256 (omega (arith, k.k1_most))) (inside 1 16 h.k1 k.k1_least k.k1_most))
      (stands_front input 1 (h.k1 ∷ []) t₃ s₁) in
      let e₃ = (two_ranged 0 96).complete 2 h.values
      (and_from _ _ (lt-ltb h.values 65536 (omega (arith, k.few_values))) (inside 0 96 h.values (omega arith) k.few_values))
      (stands_front input 2 (two_bytes h.values) t₄ s₂) in
      let e₄ = (two_ranged 1 128).complete 4 h.records
      (and_from _ _ (lt-ltb h.records 65536 (omega (arith, k.few_rows))) (inside 1 128 h.records k.some_rows k.few_rows))
      (stands_front input 4 (two_bytes h.records) bits s₃) in
      let six : 6 ≤ length input = omega (arith, stands_within input 0 h.k0 (h.k1 ∷ t₃) stands) in
      let e₅ = bits_complete input bytes h.values 6 h.classes six k.class_bits s₄ in
      rw (e₁, e₂, e₃, e₄, e₅) (ap (got h) (omega (arith, length_bytes_of (whole_bytes h.values) h.classes)))
