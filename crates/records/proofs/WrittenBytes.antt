-- What is written consists of bytes.
use Rattle.std.proofs.Common.{◌≡◌, ℕ, zero, suc, ◌/◌, ◌%◌, ◌<◌, Bool, true, eqb, ltb, List, [], ◌∷◌, ◌++◌, length, Some, None, Option, refl, arith}
use Rattle.std.proofs.lemmas.Bool.{and_parts, and_from, lt-ltb, ltb-true}
use Rattle.std.proofs.lemmas.List.Elements.{All-append}
use Rattle.code.specs.Rows.{Fields}
use Rattle.code.specs.Writing.{two_bytes, if_there, row_bytes, map_byte}
use Rattle.records.specs.Keeping.{Bytes, Keeps, all_bytes, passes, short, eight}
use Rattle.fields.specs.declared.limits.Limits.{Limits}
use Rattle.records.proofs.FieldCodecs.{all_decides}
use Rattle.records.proofs.RoundTrip.{map_small}

pub bytes_from : (xs : List ℕ) → all_bytes xs ≡ true → Bytes xs
bytes_from [] ok k = omega arith
bytes_from (x ∷ xs) ok zero = ltb-true x 256 (and_parts (ltb x 256) (all_bytes xs) ok).0
bytes_from (x ∷ xs) ok (suc k) = bytes_from xs (and_parts (ltb x 256) (all_bytes xs) ok).1 k

pub all_append : (xs ys : List ℕ) → all_bytes xs ≡ true → all_bytes ys ≡ true → all_bytes (xs ++ ys) ≡ true
all_append xs ys h k = (all_decides (xs ++ ys)).1 (All-append (λ b. b < 256) xs ys ((all_decides xs).0 h) ((all_decides ys).0 k))

pub all_two : (n : ℕ) → n < 65536 → all_bytes (two_bytes n) ≡ true
all_two n less =
    and_from (ltb (n % 256) 256) (all_bytes (n / 256 ∷ [])) (lt-ltb (n % 256) 256 (omega arith))
    (and_from (ltb (n / 256) 256) true (lt-ltb (n / 256) 256 (omega arith)) refl)

all_short : (test : ℕ → Bool) (o : Option ℕ) → passes (short test) o ≡ true → all_bytes (if_there two_bytes o) ≡ true
all_short test None ok = refl
all_short test (Some n) ok = all_two n (ltb-true n 65536 (and_parts (ltb n 65536) (test n) ok).0)

all_eight : (o : Option (List ℕ)) → passes eight o ≡ true → all_bytes (if_there (λ b. b) o) ≡ true
all_eight None ok = refl
all_eight (Some b) ok = (and_parts (eqb (length b) 8) (all_bytes b) ok).1

-- a record that keeps the rules is written as bytes
pub all_row : (l : Limits) (f : Fields) → Keeps l f → all_bytes (row_bytes f) ≡ true
all_row l f k =
    let u₁ = if_there two_bytes f.destination in
    let u₂ = if_there two_bytes f.first in
    let u₃ = if_there two_bytes f.second in
    let u₄ = if_there two_bytes f.target in
    let u₅ = if_there (λ (b : List ℕ). b) f.constant in
    let u₆ = if_there two_bytes f.slot in
    and_from _ _ (lt-ltb (map_byte f) 256 (map_small f)) (and_from _ _ (lt-ltb f.kind 256 k.kind)
    (all_append u₁ (u₂ ++ (u₃ ++ (u₄ ++ (u₅ ++ u₆)))) (all_short _ f.destination k.destination)
    (all_append u₂ (u₃ ++ (u₄ ++ (u₅ ++ u₆))) (all_short _ f.first k.first)
    (all_append u₃ (u₄ ++ (u₅ ++ u₆)) (all_short _ f.second k.second)
    (all_append u₄ (u₅ ++ u₆) (all_short _ f.target k.target)
    (all_append u₅ u₆ (all_eight f.constant k.constant) (all_short _ f.slot k.slot)))))))
