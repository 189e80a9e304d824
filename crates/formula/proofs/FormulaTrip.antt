-- Bytes are accepted as a formula exactly when they are its writing and it keeps the rules.
use Rattle.std.proofs.Common.{◌≡◌, ℕ, zero, suc, ◌+◌, ◌/◌, ◌%◌, ◌≤◌, Bool, true, false, cond, ltb, List, [], ◌∷◌, ◌++◌, length, None, sym, refl, ap, ◌∙◌, subst, le_refl, zero-add, arith, length-append}
use Rattle.std.proofs.lemmas.List.{take_all}
use Rattle.std.proofs.lemmas.Bool.{ltb-false, le-ltb, lt-ltb, and_from}
use Rattle.code.specs.Rows.{Fields}
use Rattle.code.specs.Writing.{two_bytes, row_bytes, rows_bytes}
use Rattle.records.specs.Keeping.{Bytes, Stands, all_bytes}
use Rattle.fields.specs.Reading.{got, bad, then}
use Rattle.fields.specs.declared.limits.Limits.{Limits}
use Rattle.records.proofs.Codec.{never, then_elim, got_value}
use Rattle.records.proofs.Stands.{stands_next, stands_front, stands_back}
use Rattle.records.proofs.WrittenBytes.{bytes_from, all_append, all_two, all_row}
use Rattle.formula.specs.Formulas.{Formula, rows_at, finished, formula_at, with_rows, closed}
use Rattle.formula.specs.Headers as headers
use Rattle.formula.specs.Headers.{header_at, limits_of, whole_bytes}
use Rattle.formula.specs.Keeping.{bytes_of, formula_bytes, header_bytes, limits, Keeps, AllKeep}
use Rattle.formula.specs.Laws.{AcceptsWritings, DistinctWritings}
use Rattle.formula.proofs.HeaderTrip.{written, Ranges, header_sound, header_complete}
use Rattle.formula.proofs.RowsTrip.{rows_sound, rows_complete}

finished_elim : {C : Type 0} (left shut : Bool) (place n last : ℕ) (g f : Formula) (q : ℕ)
    → then (cond left (bad 10 place) (cond shut (got tt n) (bad 11 last))) (λ (_ : Unit {0}) end. got g end) ≡ got f q
    → (left ≡ false → shut ≡ true → g ≡ f → C) → C
finished_elim true shut place n last g f q e use-it = absurd (never e)
finished_elim false true place n last g f q e use-it = use-it refl refl (got_value e)
finished_elim false false place n last g f q e use-it = absurd (never e)

-- an input that begins with bytes that reach its end is those bytes
whole_input : (input bytes : List ℕ) → Stands input 0 bytes → length input ≤ length bytes → input ≡ bytes
whole_input input bytes stands long = sym (take_all (length bytes) input long) ∙ stands

-- the limits of a header whose targets reach so far
abbrev reaching : headers.Fields → ℕ → Limits
reaching h n = record { k0 = h.k0; k1 = h.k1; values = h.values; classes = h.classes; targets = n; slots = None }

-- a header and the rows that it counts
keeps_with : (h : headers.Fields) (rows : List Fields) → length rows ≡ h.records → Ranges h → AllKeep (limits_of h) rows → closed rows ≡ true
    → Keeps (with_rows h rows)
keeps_with h rows count k all shut = record {
  k0_least = k.k0_least;
  k0_most = k.k0_most;
  k1_least = k.k1_least;
  k1_most = k.k1_most;
  few_values = k.few_values;
  some_rows = rw count k.some_rows;
  few_rows = rw count k.few_rows;
  class_bits = k.class_bits;
  rows = subst (λ n. AllKeep (reaching h n) rows) (sym count) all;
  last = shut;
}

-- a formula's own header
abbrev header_of : Formula → headers.Fields
header_of f = record { k0 = f.k0; k1 = f.k1; values = f.values; records = length f.rows; classes = f.classes }

module _ (input : List ℕ) (ok : Bytes input) (f : Formula) where
  accepted_sound : formula_at input ≡ got f (length input) → (input ≡ formula_bytes f) × Keeps f
  unfolding formula_at
  accepted_sound e =
      then_elim (header_at input) _ f (length input) e (λ h p r₁ e₁.
      then_elim (rows_at (limits_of h) input p h.records) (finished input h) f (length input) e₁ (λ r q r₂ e₂.
      finished_elim (ltb q (length input)) (closed r.rows) q (length input) r.last (with_rows h r.rows) f (length input) e₂ (λ none shut is.
      let head = header_sound input ok h p r₁ in
      let rows = rows_sound input ok (limits_of h) p h.records r q r₂ in
      let bytes = written h ++ rows_bytes r.rows in
      let all : Stands input 0 bytes = stands_next input 0 p (written h) (rows_bytes r.rows) (head.0 ∙ sym (zero-add (length (written h)))) head.1 rows.1 in
      let long : length input ≤ length bytes =
      rw length-append (omega (arith, ltb-false q (length input) none, head.0, rows.0)) in
      let same : formula_bytes (with_rows h r.rows) ≡ bytes = rw rows.3 refl in
      rw (← is) (whole_input input bytes all long ∙ sym same, keeps_with h r.rows rows.3 head.2 rows.2 shut))))

  accepted_complete : (input ≡ formula_bytes f) × Keeps f → formula_at input ≡ got f (length input)
  unfolding formula_at
  accepted_complete e =
      let k = e.1 in
      let h = header_of f in
      let all : Stands input 0 (formula_bytes f) = rw e.0 (take_all (length (formula_bytes f)) (formula_bytes f) (le_refl _)) in
      let ranges : Ranges h = record {
        k0_least = k.k0_least;
        k0_most = k.k0_most;
        k1_least = k.k1_least;
        k1_most = k.k1_most;
        few_values = k.few_values;
        some_rows = k.some_rows;
        few_rows = k.few_rows;
        class_bits = k.class_bits;
      } in
      let head = header_complete input ok h ranges (stands_front input 0 (written h) (rows_bytes f.rows) all) in
      let back = stands_back input 0 (written h) (rows_bytes f.rows) all in
      let rows = rows_complete input ok (limits_of h) (length (written h)) f.rows k.rows (rw zero-add at back) in
      let end : length input ≤ length (written h) + length (rows_bytes f.rows) = omega (arith, ap length e.0, length-append (written h) (rows_bytes f.rows)) in
      rw (head, rows.1, le-ltb _ _ end, k.last) refl

pub accepts_writings : AcceptsWritings
accepts_writings input ok f = (
  λ a. let s = accepted_sound input ok f a.0 in (s.0, (s.1, a.1)),
  λ w. (accepted_complete input ok f (w.0, w.1.0), w.1.1),
)

all_bytes_of : (k n : ℕ) → all_bytes (bytes_of k n) ≡ true
all_bytes_of zero n = refl
all_bytes_of (suc k) n = and_from (ltb (n % 256) 256) (all_bytes (bytes_of k (n / 256))) (lt-ltb (n % 256) 256 (omega arith)) (all_bytes_of k (n / 256))

all_rows : (l : Limits) (fs : List Fields) → AllKeep l fs → all_bytes (rows_bytes fs) ≡ true
all_rows l [] all = refl
all_rows l (f ∷ fs) all = all_append (row_bytes f) (rows_bytes fs) (all_row l f all.0) (all_rows l fs all.1)

-- a formula that keeps the rules is written as bytes
written_bytes : (f : Formula) → Keeps f → Bytes (formula_bytes f)
written_bytes f k =
    let bits = bytes_of (whole_bytes f.values) f.classes in
    bytes_from (formula_bytes f)
    (all_append (header_bytes f) (rows_bytes f.rows)
    (and_from _ _ (lt-ltb f.k0 256 (omega (arith, k.k0_most))) (and_from _ _ (lt-ltb f.k1 256 (omega (arith, k.k1_most)))
    (all_append (two_bytes f.values) (two_bytes (length f.rows) ++ bits) (all_two f.values (omega (arith, k.few_values)))
    (all_append (two_bytes (length f.rows)) bits (all_two (length f.rows) (omega (arith, k.few_rows))) (all_bytes_of (whole_bytes f.values) f.classes)))))
    (all_rows (limits f) f.rows k.rows))

pub distinct_writings : DistinctWritings
distinct_writings f g kf kg same =
    let ok = written_bytes f kf in
    got_value (sym (accepted_complete (formula_bytes f) ok f (refl, kf)) ∙ accepted_complete (formula_bytes f) ok g (same, kg))
