-- Reading and writing undo each other, field by field.
use Rattle.std.proofs.Common.{◌≡◌, ℕ, ◌+◌, ◌*◌, ◌/◌, ◌%◌, Bool, true, false, cond, ◌&&◌, ltb, leb, List, [], ◌∷◌, length, get_or, is_some, Some, None, Option, sym, refl, ap, ◌∙◌, ap₂, add-zero, arith}
use Rattle.std.proofs.lemmas.Bool.{leb-true, le-leb, and_parts, and_from, lt-ltb}
use Rattle.code.specs.Writing as writing
use Rattle.records.specs.Keeping.{Stands, Bytes, passes}
use Rattle.fields.specs.Reading.{Read, got, bad, then, byte, two, checked, if_there}
use Rattle.records.proofs.Stands.{stands_byte, stands_two, stands_at, stands_within}

pub never : {A : Type 0} {a : A} {p n q : ℕ} → bad n q ≡ got a p → ⊥
never e = let z : ◌≡◌ {A = ℕ} 0 1 = cc in omega arith

-- what was read first where reading on came to an end
pub then_elim : {A B C : Type 0} (x : Read A) (f : A → ℕ → Read B) (b : B) (q : ℕ) → then x f ≡ got b q
    → ((a : A) (p : ℕ) → x ≡ got a p → f a p ≡ got b q → C) → C
then_elim (got a p) f b q e use-it = use-it a p refl e
then_elim (bad n at) f b q e use-it = absurd (never e)

pub then_got : {A B : Type 0} (x : Read A) (f : A → ℕ → Read B) (b : B) (q : ℕ) → then x f ≡ got b q
    → (a : A) × (p : ℕ) × (x ≡ got a p) × (f a p ≡ got b q)
then_got x f b q e = then_elim x f b q e (λ a p r s. (a, p, r, s))

pub got_value : {A : Type 0} {a b : A} {p q : ℕ} → got a p ≡ got b q → a ≡ b
got_value e = cc

pub got_place : {A : Type 0} {a b : A} {p q : ℕ} → got a p ≡ got b q → p ≡ q
got_place e = cc

-- what was read behind a check that came out true
pub when_got : {A : Type 0} (t : Bool) (x : Read A) (number at : ℕ) (a : A) (q : ℕ) → cond t x (bad number at) ≡ got a q → (t ≡ true) × (x ≡ got a q)
when_got true x number at a q e = (refl, e)
when_got false x number at a q e = absurd (never e)

-- a check that let a value through
pub checked_got : {A : Type 0} (t : Bool) (number at : ℕ) (v a : A) (p q : ℕ) → checked t number at v p ≡ got a q → (t ≡ true) × (v ≡ a) × (p ≡ q)
checked_got t number at v a p q e = let w = when_got t (got v p) number at a q e in (w.0, got_value w.1, got_place w.1)

-- A reader and a writer that undo each other on one input: what is read is written there and passes the test,
-- and what is written there and passes the test is read.
pub record Codec {A : Type 0} (input : List ℕ) (read : ℕ → Read A) (write : A → List ℕ) (ok : A → Bool) : Type 0 where
  pub sound : (at : ℕ) (a : A) (q : ℕ) → read at ≡ got a q → (q ≡ at + length (write a)) × Stands input at (write a) × (ok a ≡ true)
  pub complete : (at : ℕ) (a : A) → ok a ≡ true → Stands input at (write a) → read at ≡ got a (at + length (write a))

-- a further check behind a reader
pub and_checked : {A : Type 0} (input : List ℕ) (read : ℕ → Read A) (write : A → List ℕ) (ok test : A → Bool) (number : ℕ)
    → Codec input read write ok
    → Codec input (λ at. then (read at) (λ v next. checked (test v) number at v next)) write (λ a. ok a && test a)
and_checked input read write ok test number c = record {
  sound = λ at a q e.
      let s = then_got (read at) (λ v next. checked (test v) number at v next) a q e in
      let t = checked_got (test s.0) number at s.0 a s.1 q s.3 in
      let r : read at ≡ got a q = s.2 ∙ ap₂ got t.1 t.2 in
      let w = c.sound at a q r in
      (w.0, w.1, and_from (ok a) (test a) w.2 (ap test (sym t.1) ∙ t.0));
  complete = λ at a both stands.
      let parts = and_parts (ok a) (test a) both in
      rw (c.complete at a parts.0 stands, parts.1) refl;
}

-- a field that may be missing
pub if_there_sound : {A : Type 0} (input : List ℕ) (read : ℕ → Read A) (write : A → List ℕ) (ok : A → Bool) → Codec input read write ok
    → (b : Bool) (at : ℕ) (o : Option A) (q : ℕ) → if_there b read at ≡ got o q
    → (q ≡ at + length (writing.if_there write o)) × Stands input at (writing.if_there write o) × (passes ok o ≡ true) × (is_some o ≡ b)
if_there_sound input read write ok c false at o q e =
    let e₀ : None ≡ o = got_value e in
    rw (← e₀) (sym (got_place e) ∙ sym (add-zero at), refl, refl, refl)
if_there_sound {A} input read write ok c true at o q e =
    let s = then_got (read at) (λ v next. got (Some v) next) o q e in
    let e₀ : Some s.0 ≡ o = got_value s.3 in
    let w = c.sound at s.0 s.1 s.2 in
    rw (← e₀) (sym (got_place s.3) ∙ w.0, w.1, w.2, refl)

pub if_there_complete : {A : Type 0} (input : List ℕ) (read : ℕ → Read A) (write : A → List ℕ) (ok : A → Bool) → Codec input read write ok
    → (b : Bool) (at : ℕ) (o : Option A) → passes ok o ≡ true → is_some o ≡ b → Stands input at (writing.if_there write o)
    → if_there b read at ≡ got o (at + length (writing.if_there write o))
if_there_complete input read write ok c b at None pass there stands = rw (← there) (ap (got None) (sym (add-zero at)))
if_there_complete input read write ok c b at (Some a) pass there stands = rw (← there) (rw (c.complete at a pass stands) refl)

-- a byte
pub byte_codec : (input : List ℕ) → Bytes input → Codec input (byte input) (λ b. b ∷ []) (λ b. ltb b 256)
byte_codec input bytes = record {
  sound = λ at a q e.
      let s = checked_got (leb (at + 1) (length input)) 3 (length input) (get_or input at 0) a (at + 1) q e in
      rw (← s.1, ← s.2) (refl, stands_byte input at (leb-true (at + 1) (length input) s.0), lt-ltb (get_or input at 0) 256 (bytes at));
  complete = λ at a ok stands.
      let within = stands_within input at a [] stands in
      let is : get_or input (at + 0) 0 ≡ a = stands_at input at (a ∷ []) 0 stands (omega arith) in
      let is' : get_or input at 0 ≡ a = rw add-zero at is in
      rw (le-leb (at + 1) (length input) within, is') refl;
}

-- a number of two bytes
pub two_codec : (input : List ℕ) → Bytes input → Codec input (two input) writing.two_bytes (λ n. ltb n 65536)
two_codec input bytes = record {
  sound = λ at a q e.
      let low = get_or input at 0 in
      let high = get_or input (at + 1) 0 in
      let s = checked_got (leb (at + 2) (length input)) 3 (length input) (low + 256 * high) a (at + 2) q e in
      let less = bytes at in
      let less' = bytes (at + 1) in
      let first : (low + 256 * high) % 256 ≡ low = omega arith in
      let second : (low + 256 * high) / 256 ≡ high = omega arith in
      rw (← s.1, ← s.2, first, second)
      (refl, stands_two input at (leb-true (at + 2) (length input) s.0), lt-ltb (low + 256 * high) 65536 (omega arith));
  complete = λ at a ok stands.
      let within = stands_within input at (a % 256) (a / 256 ∷ []) stands in
      let first : get_or input (at + 0) 0 ≡ a % 256 = stands_at input at (writing.two_bytes a) 0 stands (omega arith) in
      let second : get_or input (at + 1) 0 ≡ a / 256 = stands_at input at (writing.two_bytes a) 1 stands (omega arith) in
      let first' : get_or input at 0 ≡ a % 256 = rw add-zero at first in
      let back : a % 256 + 256 * (a / 256) ≡ a = omega arith in
      rw (le-leb (at + 2) (length input) within, first', second, back) refl;
}
