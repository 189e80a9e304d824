-- A record is read exactly where its writing stands and it keeps the rules.
use Rattle.std.proofs.Common.{◌≡◌, ℕ, ◌+◌, ◌*◌, ◌/◌, ◌%◌, ◌<◌, ◌≤◌, Bool, true, false, cond, ◌&&◌, ◌||◌, eqb, leb, List, [], ◌∷◌, length, is_some, Some, None, Option, sym, refl, ◌∙◌, inl, inr, arith}
use Rattle.std.proofs.lemmas.Bool.{and_parts, and_from, lt-ltb, ltb-true, eqb-true, eq-eqb, or_cases, false≢true}
use Rattle.std.proofs.lemmas.Bool.Decides.{nat_tests}
use Rattle.std.specs.List.{AllByRecursion}
use Rattle.code.specs.Kinds.{Entry, own, has_field, among, listed, operator_maps, formula_kinds, slot_kinds}
use Rattle.code.specs.Rows.{Fields}
use Rattle.code.specs.Writing.{row_bytes, body_bytes, map_byte, bit_of}
use Rattle.fields.specs.InUse.{in_use}
use Rattle.records.specs.Keeping.{Stands, Bytes, Keeps, passes, short}
use Rattle.records.specs.Laws.{ReadsWritings}
use Rattle.fields.specs.Reading.{got, byte}
use Rattle.fields.specs.Operands.{same_class}
use Rattle.records.specs.Records.{fields_at, record_at}
use Rattle.fields.specs.declared.limits.Limits.{Limits}
use Rattle.records.proofs.Codec.{then_elim, when_got, byte_codec}
use Rattle.records.proofs.Maps.{among_holds}
use Rattle.records.proofs.Rows.{Body, body_sound, body_complete}
use Rattle.records.proofs.Stands.{stands_next, stands_front, stands_back}

abbrev one_if : Bool → ℕ
one_if b = cond b 1 0

-- the map that has these fields
abbrev sum_of : Bool → Bool → Bool → Bool → Bool → Bool → ℕ
sum_of b₁ b₂ b₃ b₄ b₅ b₆ =
    1 * one_if b₁ + 2 * one_if b₂ + 4 * one_if b₃ + 8 * one_if b₄ + 16 * one_if b₅ + 64 * one_if b₆

bit_is : {A : Type 0} (bit : ℕ) (o : Option A) → bit_of bit o ≡ bit * one_if (is_some o)
bit_is bit None = omega arith
bit_is bit (Some a) = omega arith

map_is : (f : Fields) → map_byte f
    ≡ sum_of (is_some f.destination) (is_some f.first) (is_some f.second) (is_some f.target) (is_some f.constant) (is_some f.slot)
map_is f =
    rw (bit_is 0x01 f.destination, bit_is 0x02 f.first, bit_is 0x04 f.second, bit_is 0x08 f.target, bit_is 0x10 f.constant, bit_is 0x40 f.slot) refl

-- a map that is the sum of the bits of the fields that it has
abbrev Summed : ℕ → Type 0
Summed m = sum_of (has_field 0x01 m) (has_field 0x02 m) (has_field 0x04 m) (has_field 0x08 m) (has_field 0x10 m) (has_field 0x40 m) ≡ m

summed_at : (m x : ℕ) → eqb m x ≡ true → Summed x → Summed m
summed_at m x e h = rw (eqb-true m x e) h

listed_summed : (es : List Entry) (k m : ℕ) → AllByRecursion (λ x. Summed x.map) es → listed es k m ≡ true → Summed m
listed_summed [] k m all e = absurd (false≢true e)
listed_summed (x ∷ es) k m all e =
    elim (or_cases (eqb k x.kind && eqb m x.map) (listed es k m) e) [
      | inl h ↦ summed_at m x.map (and_parts (eqb k x.kind) (eqb m x.map) h).1 all.0
      | inr h ↦ listed_summed es k m all.1 h
    ]

-- every map of a kind's own is one
own_summed : (s : Bool) (k m : ℕ) → own s k m ≡ true → Summed m
own_summed s k m e =
    elim (or_cases (leb 16 k && among operator_maps m) (listed formula_kinds k m || (s && listed slot_kinds k m)) e) [
      | inl h ↦ among_holds Summed operator_maps m (refl, (refl, (refl, (refl, tt)))) (and_parts (leb 16 k) (among operator_maps m) h).1
      | inr h ↦ elim (or_cases (listed formula_kinds k m) (s && listed slot_kinds k m) h) [
        | inl h ↦ listed_summed formula_kinds k m (refl, (refl, (refl, (refl, (refl, (refl, tt)))))) h
        | inr h ↦ listed_summed slot_kinds k m (refl, (refl, tt)) (and_parts s (listed slot_kinds k m) h).1
      ]
    ]

one_small : (b : Bool) → one_if b ≤ 1
one_small b = grind (arith, nat_tests)

-- a map is a byte
pub map_small : (f : Fields) → map_byte f < 256
map_small f =
    rw (map_is f) (omega (
      arith,
      one_small (is_some f.destination),
      one_small (is_some f.first),
      one_small (is_some f.second),
      one_small (is_some f.target),
      one_small (is_some f.constant),
      one_small (is_some f.slot),
    ))

-- a bit of the sum is the field's own
bit_back : (b : Bool) (n : ℕ) → n ≡ one_if b → b ≡ eqb n 1
bit_back b n e = grind (arith, nat_tests)

-- the six fields of a map, back from their sum
sum_has : (b₁ b₂ b₃ b₄ b₅ b₆ : Bool) (m : ℕ) → m ≡ sum_of b₁ b₂ b₃ b₄ b₅ b₆
    → (b₁ ≡ has_field 0x01 m) × (b₂ ≡ has_field 0x02 m) × (b₃ ≡ has_field 0x04 m)
    × (b₄ ≡ has_field 0x08 m) × (b₅ ≡ has_field 0x10 m) × (b₆ ≡ has_field 0x40 m)
sum_has b₁ b₂ b₃ b₄ b₅ b₆ m e =
    let s₁ = one_small b₁ in
    let s₂ = one_small b₂ in
    let s₃ = one_small b₃ in
    let s₄ = one_small b₄ in
    let s₅ = one_small b₅ in
    let s₆ = one_small b₆ in (
      bit_back b₁ (m / 1 % 2) (omega arith),
      bit_back b₂ (m / 2 % 2) (omega arith),
      bit_back b₃ (m / 4 % 2) (omega arith),
      bit_back b₄ (m / 8 % 2) (omega arith),
      bit_back b₅ (m / 16 % 2) (omega arith),
      bit_back b₆ (m / 64 % 2) (omega arith),
    )

-- two tests in one
passes_both : {A : Type 0} (t u : A → Bool) (o : Option A) → passes (λ a. t a && u a) o ≡ true → (passes t o ≡ true) × (passes u o ≡ true)
passes_both t u None h = (refl, refl)
passes_both t u (Some a) h = and_parts (t a) (u a) h

passes_two : {A : Type 0} (t u : A → Bool) (o : Option A) → passes t o ≡ true → passes u o ≡ true → passes (λ a. t a && u a) o ≡ true
passes_two t u None h k = refl
passes_two t u (Some a) h k = and_from (t a) (u a) h k

passes_any : {A : Type 0} (o : Option A) → passes (λ _. true) o ≡ true
passes_any None = refl
passes_any (Some a) = refl

-- the check of the classes is made for a move alone
when_move : {A : Type 0} (moves : Bool) (t : A → Bool) (o : Option A) → (moves ≡ true → passes t o ≡ true) → passes (λ a. cond moves (t a) true) o ≡ true
when_move true t o h = h refl
when_move false t o h = passes_any o

module _ (input : List ℕ) (bytes : Bytes input) (l : Limits) (at : ℕ) (f : Fields) where
  pub record_sound : (q : ℕ) → record_at l input at ≡ got f q
      → (q ≡ at + length (row_bytes f)) × Stands input at (row_bytes f) × Keeps l f
  unfolding record_at
  record_sound q e =
      then_elim (byte input at) _ f q e (λ m p₁ r₁ e₁.
      then_elim (byte input p₁) _ f q e₁ (λ k p₂ r₂ e₂.
      let own_map = when_got (own (is_some l.slots) k m) (fields_at l input (eqb k 3) k m p₂) 6 at f q e₂ in
      let owned = own_map.0 in
      let w₁ = (byte_codec input bytes).sound at m p₁ r₁ in
      let w₂ = (byte_codec input bytes).sound p₁ k p₂ r₂ in
      let w₃ = body_sound input bytes l (eqb k 3) k m p₂ f q own_map.1 in
      let b = w₃.2 in
      let map : map_byte f ≡ m =
      map_is f ∙ (rw (b.has_destination, b.has_first, b.has_second, b.has_target, b.has_constant, b.has_slot) (own_summed (is_some l.slots) k m owned)) in
      let first = passes_both (short (in_use l)) (λ v. cond (eqb k 3) (same_class l f.destination v) true) f.first b.first in (
        rw (w₃.0, w₂.0, w₁.0) (omega arith),
        rw (map, b.kind) (stands_next input at p₁ (m ∷ []) (k ∷ body_bytes f) w₁.0 w₁.1
            (stands_next input p₁ p₂ (k ∷ []) (body_bytes f) w₂.0 w₂.1 w₃.1)),
        record {
          kind = rw b.kind (ltb-true k 256 w₂.2);
          fields = rw (map, b.kind) owned;
          destination = b.destination;
          first = first.0;
          second = b.second;
          classes = λ is. let three : eqb k 3 ≡ true = eq-eqb k 3 (sym b.kind ∙ is) in rw three at first.1;
          target = b.target;
          slot = b.slot;
          constant = b.constant;
        },
      )))

  pub record_complete : Keeps l f → Stands input at (row_bytes f) → record_at l input at ≡ got f (at + length (row_bytes f))
  unfolding record_at
  record_complete k stands =
      let m = map_byte f in
      let has = sum_has (is_some f.destination) (is_some f.first) (is_some f.second) (is_some f.target) (is_some f.constant) (is_some f.slot) m (map_is f) in
      let s₁ = stands_back input at (m ∷ []) (f.kind ∷ body_bytes f) stands in
      let s₂ = stands_back input (at + 1) (f.kind ∷ []) (body_bytes f) s₁ in
      let e₁ = (byte_codec input bytes).complete at m (lt-ltb m 256 (map_small f)) (stands_front input at (m ∷ []) (f.kind ∷ body_bytes f) stands) in
      let e₂ = (byte_codec input bytes).complete (at + 1) f.kind (lt-ltb f.kind 256 k.kind) (stands_front input (at + 1) (f.kind ∷ []) (body_bytes f) s₁) in
      let first = passes_two (short (in_use l)) (λ v. cond (eqb f.kind 3) (same_class l f.destination v) true) f.first k.first
      (when_move (eqb f.kind 3) (same_class l f.destination) f.first (λ three. k.classes (eqb-true f.kind 3 three))) in
      let b : Body l (eqb f.kind 3) f.kind m f = record {
        kind = refl;
        destination = k.destination;
        first = first;
        second = k.second;
        target = k.target;
        constant = k.constant;
        slot = k.slot;
        has_destination = has.0;
        has_first = has.1;
        has_second = has.2;
        has_target = has.3;
        has_constant = has.4;
        has_slot = has.5;
      } in
      let e₃ = body_complete input bytes l (eqb f.kind 3) f.kind m ((at + 1) + 1) f b s₂ in
      let place : ((at + 1) + 1) + length (body_bytes f) ≡ at + length (row_bytes f) = omega arith in
      rw (e₁, e₂, k.fields, e₃, place) refl

pub reads_writings : (l : Limits) (input : List ℕ) (at : ℕ) → ReadsWritings l input at
reads_writings l input at bytes f = (record_sound input bytes l at f, record_complete input bytes l at f)
