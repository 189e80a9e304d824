-- A record is read exactly where its writing stands and it keeps the rules.
use Rattle.std.proofs.Common.{◌≡◌, ℕ, ◌+◌, Bool, true, cond, ◌&&◌, ltb, List, ◌++◌, length, is_some, refl, arith, length-append}
use Rattle.code.specs.Kinds.{has_field}
use Rattle.code.specs.Rows.{Fields}
use Rattle.code.specs.Writing as writing
use Rattle.code.specs.Writing.{two_bytes, body_bytes}
use Rattle.fields.specs.InUse.{in_use, below_given}
use Rattle.records.specs.Keeping.{Stands, Bytes, passes, short, eight}
use Rattle.fields.specs.Reading.{got, part, if_there}
use Rattle.fields.specs.Operands.{operand, source, target, slot, same_class}
use Rattle.records.specs.Records.{fields_at}
use Rattle.fields.specs.declared.limits.Limits.{Limits}
use Rattle.records.proofs.Codec.{then_elim, got_value, got_place, if_there_sound, if_there_complete}
use Rattle.records.proofs.FieldCodecs.{operand_codec, target_codec, slot_codec, source_codec, eight_codec}
use Rattle.records.proofs.Stands.{stands_next, stands_front, stands_back}

-- what holds of the fields of a record with this kind and map
pub record Body (l : Limits) (moves : Bool) (k m : ℕ) (f : Fields) : Type 0 where
  pub kind : f.kind ≡ k
  pub destination : passes (short (in_use l)) f.destination ≡ true
  pub first : passes (λ v. short (in_use l) v && cond moves (same_class l f.destination v) true) f.first ≡ true
  pub second : passes (short (in_use l)) f.second ≡ true
  pub target : passes (short (λ t. ltb t l.targets)) f.target ≡ true
  pub constant : passes eight f.constant ≡ true
  pub slot : passes (short (below_given l.slots)) f.slot ≡ true
  pub has_destination : is_some f.destination ≡ has_field 0x01 m
  pub has_first : is_some f.first ≡ has_field 0x02 m
  pub has_second : is_some f.second ≡ has_field 0x04 m
  pub has_target : is_some f.target ≡ has_field 0x08 m
  pub has_constant : is_some f.constant ≡ has_field 0x10 m
  pub has_slot : is_some f.slot ≡ has_field 0x40 m

module _ (input : List ℕ) (bytes : Bytes input) (l : Limits) (moves : Bool) (k m : ℕ) where
  abbrev Sound : ℕ → Fields → ℕ → Type 0
  Sound place f q = (q ≡ place + length (body_bytes f)) × Stands input place (body_bytes f) × Body l moves k m f

  pub body_sound : (place : ℕ) (f : Fields) (q : ℕ) → fields_at l input moves k m place ≡ got f q → Sound place f q
  body_sound place f q e =
      then_elim (if_there (has_field 0x01 m) (operand l input) place) _ f q e (λ d p₁ r₁ e₁.
      then_elim (if_there (has_field 0x02 m) (source l moves d input) p₁) _ f q e₁ (λ s p₂ r₂ e₂.
      then_elim (if_there (has_field 0x04 m) (operand l input) p₂) _ f q e₂ (λ t p₃ r₃ e₃.
      then_elim (if_there (has_field 0x08 m) (target l input) p₃) _ f q e₃ (λ to p₄ r₄ e₄.
      then_elim (if_there (has_field 0x10 m) (part 8 input) p₄) _ f q e₄ (λ c p₅ r₅ e₅.
      then_elim (if_there (has_field 0x40 m) (slot l input) p₅) _ f q e₅ (λ sl p₆ r₆ e₆.
      let w₁ = if_there_sound input _ two_bytes (short (in_use l)) (operand_codec input bytes l) (has_field 0x01 m) place d p₁ r₁ in
      let w₂ = if_there_sound input _ two_bytes _ (source_codec input bytes l moves d) (has_field 0x02 m) p₁ s p₂ r₂ in
      let w₃ = if_there_sound input _ two_bytes (short (in_use l)) (operand_codec input bytes l) (has_field 0x04 m) p₂ t p₃ r₃ in
      let w₄ = if_there_sound input _ two_bytes _ (target_codec input bytes l) (has_field 0x08 m) p₃ to p₄ r₄ in
      let w₅ = if_there_sound input _ (λ b. b) eight (eight_codec input bytes) (has_field 0x10 m) p₄ c p₅ r₅ in
      let w₆ = if_there_sound input _ two_bytes _ (slot_codec input bytes l) (has_field 0x40 m) p₅ sl p₆ r₆ in
      rw (← got_value e₆, ← got_place e₆) (
        simp length-append (omega (arith, w₁.0, w₂.0, w₃.0, w₄.0, w₅.0, w₆.0)),
        stands_next input place p₁ _ _ w₁.0 w₁.1
            (stands_next input p₁ p₂ _ _ w₂.0 w₂.1
            (stands_next input p₂ p₃ _ _ w₃.0 w₃.1
            (stands_next input p₃ p₄ _ _ w₄.0 w₄.1
            (stands_next input p₄ p₅ _ _ w₅.0 w₅.1 w₆.1)))),
        record {
          kind = refl;
          destination = w₁.2;
          first = w₂.2;
          second = w₃.2;
          target = w₄.2;
          constant = w₅.2;
          slot = w₆.2;
          has_destination = w₁.3;
          has_first = w₂.3;
          has_second = w₃.3;
          has_target = w₄.3;
          has_constant = w₅.3;
          has_slot = w₆.3;
        },
      )))))))

  pub body_complete : (place : ℕ) (f : Fields) → Body l moves k m f → Stands input place (body_bytes f)
      → fields_at l input moves k m place ≡ got f (place + length (body_bytes f))
  body_complete place f b stands =
      let u₁ = writing.if_there two_bytes f.destination in
      let u₂ = writing.if_there two_bytes f.first in
      let u₃ = writing.if_there two_bytes f.second in
      let u₄ = writing.if_there two_bytes f.target in
      let u₅ = writing.if_there (λ (xs : List ℕ). xs) f.constant in
      let u₆ = writing.if_there two_bytes f.slot in
      let p₁ = place + length u₁ in
      let p₂ = p₁ + length u₂ in
      let p₃ = p₂ + length u₃ in
      let p₄ = p₃ + length u₄ in
      let p₅ = p₄ + length u₅ in
      let s₁ = stands_back input place u₁ (u₂ ++ (u₃ ++ (u₄ ++ (u₅ ++ u₆)))) stands in
      let s₂ = stands_back input p₁ u₂ (u₃ ++ (u₄ ++ (u₅ ++ u₆))) s₁ in
      let s₃ = stands_back input p₂ u₃ (u₄ ++ (u₅ ++ u₆)) s₂ in
      let s₄ = stands_back input p₃ u₄ (u₅ ++ u₆) s₃ in
      let s₅ = stands_back input p₄ u₅ u₆ s₄ in
      let e₁ = if_there_complete input _ two_bytes _ (operand_codec input bytes l) _ place f.destination b.destination b.has_destination
      (stands_front input place u₁ (u₂ ++ (u₃ ++ (u₄ ++ (u₅ ++ u₆)))) stands) in
      let e₂ = if_there_complete input _ two_bytes _ (source_codec input bytes l moves f.destination) _ p₁ f.first b.first b.has_first
      (stands_front input p₁ u₂ (u₃ ++ (u₄ ++ (u₅ ++ u₆))) s₁) in
      let e₃ = if_there_complete input _ two_bytes _ (operand_codec input bytes l) _ p₂ f.second b.second b.has_second
      (stands_front input p₂ u₃ (u₄ ++ (u₅ ++ u₆)) s₂) in
      let e₄ = if_there_complete input _ two_bytes _ (target_codec input bytes l) _ p₃ f.target b.target b.has_target
      (stands_front input p₃ u₄ (u₅ ++ u₆) s₃) in
      let e₅ = if_there_complete input _ (λ xs. xs) eight (eight_codec input bytes) _ p₄ f.constant b.constant b.has_constant
      (stands_front input p₄ u₅ u₆ s₄) in
      let e₆ = if_there_complete input _ two_bytes _ (slot_codec input bytes l) _ p₅ f.slot b.slot b.has_slot s₅ in
      let all : p₅ + length u₆ ≡ place + length (u₁ ++ (u₂ ++ (u₃ ++ (u₄ ++ (u₅ ++ u₆))))) = simp length-append (omega arith) in
      rw (e₁, e₂, e₃, e₄, e₅, e₆, ← b.kind, all) refl
