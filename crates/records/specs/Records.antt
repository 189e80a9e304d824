-- How a record is read: map and kind, then each field that the map has, in order, each read and then checked before the next.
use Rattle.std.specs.Prelude.{ℕ, Bool, cond, List, is_some, Some, None, ◌==◌}
use Rattle.code.specs.Kinds.{own, has_field}
use Rattle.code.specs.Rows.{Fields}
use Rattle.fields.specs.Operands.{operand, source, target, slot}
use Rattle.fields.specs.Reading.{Read, got, bad, then, byte, part, if_there}
use Rattle.fields.specs.declared.limits.Limits.{Limits}
use Rattle.fields.specs.declared.place.Place.{Place}

-- the fields of a record with this kind and map, from the place behind them on
abbrev pub fields_at : Limits → List ℕ → Bool → ℕ → ℕ → ℕ → Read Fields
fields_at l bytes moves k m place =
    then (if_there (has_field 0x01 m) (operand l bytes) place) (λ destination p₁.
    then (if_there (has_field 0x02 m) (source l moves destination bytes) p₁) (λ first p₂.
    then (if_there (has_field 0x04 m) (operand l bytes) p₂) (λ second p₃.
    then (if_there (has_field 0x08 m) (target l bytes) p₃) (λ target p₄.
    then (if_there (has_field 0x10 m) (part 8 bytes) p₄) (λ constant p₅.
    then (if_there (has_field 0x40 m) (slot l bytes) p₅) (λ slot p₆.
    got (record {
      kind = k;
      destination = destination;
      first = first;
      second = second;
      target = target;
      constant = constant;
      slot = slot;
    }) p₆))))))

-- the same at a place, and within the limits there
abbrev pub body_at : Place → Bool → ℕ → ℕ → Read Fields
body_at p moves k m = fields_at p.limits.now p.bytes.now moves k m p.at

-- the fields of an operator, by whether it has a second source and a constant
abbrev pub operator_at : Place → ℕ → Bool → Bool → Read Fields
operator_at p k two constant =
    then (operand p.limits.now p.bytes.now p.at) (λ to p₁.
    then (operand p.limits.now p.bytes.now p₁) (λ first p₂.
    then (if_there two (operand p.limits.now p.bytes.now) p₂) (λ second p₃.
    then (if_there constant (part 8 p.bytes.now) p₃) (λ value p₄.
    got (record {
      kind = k;
      destination = Some to;
      first = Some first;
      second = second;
      target = None;
      constant = value;
      slot = None;
    }) p₄))))

-- map and kind, and then the fields; a map that is not the kind's own is refusal 6, at the record's first byte
abbrev pub parsed_at : Limits → List ℕ → ℕ → Read Fields
parsed_at l bytes at =
    then (byte bytes at) (λ m p₁.
    then (byte bytes p₁) (λ k p₂.
    let body = fields_at l bytes (k == 3) k m p₂ in
    cond (own (is_some l.slots) k m) body (bad 6 at)))

-- the record at a place
unfoldable pub record_at : Limits → List ℕ → ℕ → Read Fields
record_at l bytes at = parsed_at l bytes at
