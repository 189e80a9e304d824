-- Each field of a record, read and written.
use Rattle.std.proofs.Common.{◌≡◌, ℕ, ◌+◌, ◌<◌, ◌≤◌, Bool, true, false, cond, Decides, ◌&&◌, eqb, ltb, leb, List, length, take, drop, Option, refl, ap, arith, length-drop, length-take}
use Rattle.std.proofs.lemmas.Bool.Decides.{Decides-by_and, Decides-ltb}
use Rattle.std.proofs.lemmas.List.Elements.{All-drop, All-from_get_or, All-take}
use Rattle.std.specs.List.{All}
use Rattle.std.proofs.lemmas.Bool.{leb-true, le-leb, and_parts, and_from, eq-eqb, eqb-true}
use Rattle.code.specs.Writing.{two_bytes}
use Rattle.fields.specs.InUse.{in_use, below_given}
use Rattle.records.specs.Keeping.{Stands, Bytes, short, all_bytes, eight}
use Rattle.fields.specs.Reading.{got, part}
use Rattle.fields.specs.Operands.{operand, source, target, slot, same_class}
use Rattle.fields.specs.declared.limits.Limits.{Limits}
use Rattle.records.proofs.Codec.{Codec, and_checked, two_codec, checked_got}

-- the test of bytes is true exactly of bytes
pub all_decides : (xs : List ℕ) → Decides (all_bytes xs) (All (λ b. b < 256) xs)
all_decides = Decides-by_and (λ b. ltb b 256) (λ b. b < 256) all_bytes (λ b. Decides-ltb b 256) refl (λ _ _. refl)

module _ (input : List ℕ) (bytes : Bytes input) where
  -- a part of the input consists of bytes
  pub part_bytes : (at size : ℕ) → all_bytes (take size (drop at input)) ≡ true
  part_bytes at size = (all_decides (take size (drop at input))).1
      (All-take (λ b. b < 256) size (drop at input) (All-drop (λ b. b < 256) at input (All-from_get_or (λ b. b < 256) input 0 (λ k _. bytes k))))

  -- so many bytes
  pub part_sound : (size at : ℕ) (xs : List ℕ) (q : ℕ) → part size input at ≡ got xs q
      → (q ≡ at + length xs) × Stands input at xs × (length xs ≡ size) × (all_bytes xs ≡ true)
  part_sound size at xs q e =
      let s = checked_got (leb (at + size) (length input)) 3 (length input) (take size (drop at input)) xs (at + size) q e in
      let within = leb-true (at + size) (length input) s.0 in
      let long : length (take size (drop at input)) ≡ size = simp (length-take, length-drop) (omega arith) in
      rw (← s.1, ← s.2, long) (refl, refl, refl, part_bytes at size)

  pub eight_codec : Codec input (part 8 input) (λ b. b) eight
  eight_codec = record {
    sound = λ at xs q e.
        let s = part_sound 8 at xs q e in
        (s.0, s.1, and_from (eqb (length xs) 8) (all_bytes xs) (eq-eqb (length xs) 8 s.2) s.3);
    complete = λ at xs ok stands.
        let long = eqb-true (length xs) 8 (and_parts (eqb (length xs) 8) (all_bytes xs) ok).0 in
        let within : at + 8 ≤ length input =
        omega (arith, length-take (length xs) (drop at input), length-drop at input, ap length stands) in
        let all : take 8 (drop at input) ≡ xs = rw long at stands in
        rw (le-leb (at + 8) (length input) within, all, long) refl;
  }

  module _ (l : Limits) where
    pub operand_codec : Codec input (operand l input) two_bytes (short (in_use l))
    operand_codec = and_checked input _ two_bytes (λ n. ltb n 65536) (in_use l) 7 (two_codec input bytes)

    pub target_codec : Codec input (target l input) two_bytes (short (λ t. ltb t l.targets))
    target_codec = and_checked input _ two_bytes (λ n. ltb n 65536) (λ t. ltb t l.targets) 9 (two_codec input bytes)

    pub slot_codec : Codec input (slot l input) two_bytes (short (below_given l.slots))
    slot_codec = and_checked input _ two_bytes (λ n. ltb n 65536) (below_given l.slots) 4 (two_codec input bytes)

    -- the source of a move is of its destination's class as well
    pub source_codec : (moves : Bool) (d : Option ℕ) → Codec input (source l moves d input) two_bytes (λ v. short (in_use l) v && cond moves (same_class l d v) true)
    source_codec true d = and_checked input (operand l input) two_bytes (short (in_use l)) (same_class l d) 8 operand_codec
    source_codec false d = record {
      sound = λ at a q e.
          let s = operand_codec.sound at a q e in
          (s.0, s.1, and_from (short (in_use l) a) true s.2 refl);
      complete = λ at a ok stands. operand_codec.complete at a (and_parts (short (in_use l) a) true ok).0 stands;
    }
