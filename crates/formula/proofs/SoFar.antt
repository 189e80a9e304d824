-- What holds of the records that were read so far.
use Rattle.std.proofs.Common.{◌≡◌, ℕ, zero, suc, ◌+◌, ◌-◌, ◌<◌, Bool, false, List, [], ◌∷◌, ◌++◌, length, take, set, sym, refl, ap, ◌∙◌, append_assoc, append-nil, add-zero, add-suc, add-one, arith, length-append, length-set}
use Rattle.std.proofs.lemmas.List.{take_more_set, length_push}
use Rattle.code.specs.Codes.{rows_of}
use Rattle.code.specs.Rows.{Fields}
use Rattle.code.specs.Writing.{rows_bytes, row_bytes}
use Rattle.code.specs.declared.body.Code.{Code}
use Rattle.records.specs.Keeping.{Bytes}
use Rattle.fields.specs.Reading.{got, bad}
use Rattle.records.specs.Records.{record_at}
use Rattle.fields.specs.declared.limits.Limits.{Limits}
use Rattle.records.proofs.RoundTrip.{record_sound}
use Rattle.formula.specs.Formulas as formulas
use Rattle.formula.specs.Starts.{starts_from}

-- i records were read, and their places were put into a row of `most` places
pub record SoFar (l : Limits) (bytes : List ℕ) (at reach numbers most i : ℕ) (code : Code) (starts : List ℕ) (last : ℕ) (closed : Bool) (place : ℕ) : Type 0 where
  pub value : formulas.rows_at l bytes at i ≡ got (record { rows = rows_of code; last = last }) place
  pub placed : place ≡ at + length (rows_bytes (rows_of code))
  pub reached : code.reach ≡ reach
  pub numbered : code.numbers ≡ numbers
  pub many : length (rows_of code) ≡ i
  pub whole : length starts ≡ most
  pub began : take i starts ≡ starts_from at (rows_of code)
  pub ended : closed ≡ formulas.closed (rows_of code)

pub rows_bytes_push : (fs : List Fields) (f : Fields) → rows_bytes (fs ++ (f ∷ [])) ≡ rows_bytes fs ++ row_bytes f
rows_bytes_push [] f = append-nil (row_bytes f)
rows_bytes_push (g ∷ fs) f = ap (λ bs. row_bytes g ++ bs) (rows_bytes_push fs f) ∙ sym (append_assoc (row_bytes g) (rows_bytes fs) (row_bytes f))

starts_push : (at : ℕ) (fs : List Fields) (f : Fields) → starts_from at (fs ++ (f ∷ [])) ≡ starts_from at fs ++ ((at + length (rows_bytes fs)) ∷ [])
starts_push at [] f = ap (λ p. p ∷ []) (sym (add-zero at))
starts_push at (g ∷ fs) f =
    ap (λ ps. at ∷ ps) (starts_push (at + length (row_bytes g)) fs f
    ∙ ap (λ p. starts_from (at + length (row_bytes g)) fs ++ (p ∷ [])) (simp length-append (omega arith)))

pub closed_push : (fs : List Fields) (f : Fields) → formulas.closed (fs ++ (f ∷ [])) ≡ formulas.goes_nowhere f
closed_push [] f = refl
closed_push (g ∷ []) f = refl
closed_push (g ∷ h ∷ fs) f = closed_push (h ∷ fs) f

-- a refusal among the first records is one of all
pub rows_bad : (l : Limits) (bytes : List ℕ) (at i d n p : ℕ) → formulas.rows_at l bytes at i ≡ bad n p → formulas.rows_at l bytes at (i + d) ≡ bad n p
rows_bad l bytes at i zero n p e = rw add-zero e
rows_bad l bytes at i (suc d) n p e = rw (add-suc i d, rows_bad l bytes at i d n p e) refl

pub so_far_none : (l : Limits) (bytes : List ℕ) (at reach numbers most : ℕ) (code : Code) (starts : List ℕ)
    → rows_of code ≡ [] → code.reach ≡ reach → code.numbers ≡ numbers → length starts ≡ most
    → SoFar l bytes at reach numbers most 0 code starts at false at
so_far_none l bytes at reach numbers most code starts none r n whole = record {
  value = rw none refl;
  placed = rw none (sym (add-zero at));
  reached = r;
  numbered = n;
  many = rw none refl;
  whole = whole;
  began = rw none refl;
  ended = rw none refl;
}

module _ {l : Limits} {bytes : List ℕ} {at reach numbers most i : ℕ} {code : Code} {starts : List ℕ} {last : ℕ} {closed : Bool} {place : ℕ}
    (so : SoFar l bytes at reach numbers most i code starts last closed place) where
  pub so_far_more : {f : Fields} {q : ℕ} {code' : Code} → Bytes bytes → i < most → record_at l bytes place ≡ got f q
      → rows_of code' ≡ rows_of code ++ (f ∷ []) → code'.reach ≡ code.reach → code'.numbers ≡ code.numbers
      → SoFar l bytes at reach numbers most (i + 1) code' (set starts i place) place (formulas.goes_nowhere f) q
  so_far_more {f = f} {q = q} ok less e rows r n =
      let sound = record_sound bytes ok l place f q e in
      let inside : i < length starts = omega (arith, so.whole) in
      record {
        value = rw (rows, add-one, so.value, e) refl;
        placed = sound.0 ∙ rw (rows, rows_bytes_push (rows_of code) f, so.placed) (simp length-append (omega arith));
        reached = r ∙ so.reached;
        numbered = n ∙ so.numbered;
        many = rw (rows, length_push (rows_of code) f, so.many) refl;
        whole = rw length-set so.whole;
        began = rw (rows, take_more_set starts i place inside, so.began, starts_push at (rows_of code) f, so.placed) refl;
        ended = rw (rows, closed_push (rows_of code) f) refl;
      }

  -- a record that is refused is a refusal of all of them
  pub so_far_bad : {m n p : ℕ} → i < m → record_at l bytes place ≡ bad n p → formulas.rows_at l bytes at m ≡ bad n p
  so_far_bad {m = m} {n = n} {p = p} less e =
      let here : formulas.rows_at l bytes at (suc i) ≡ bad n p = rw (so.value, e) refl in
      let all = rows_bad l bytes at (suc i) (m - suc i) n p here in
      let sum : suc i + (m - suc i) ≡ m = omega arith in
      rw sum at all
