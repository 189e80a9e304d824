-- So many records are read exactly where their writings stand and each keeps its rules.
use Rattle.std.proofs.Common.{◌≡◌, ℕ, zero, suc, ◌+◌, List, [], ◌∷◌, ◌++◌, length, sym, refl, ap, ◌∙◌, append_assoc, append-nil, add-zero, add-one, arith, length-append}
use Rattle.std.proofs.lemmas.List.{length_push}
use Rattle.code.specs.Rows.{Fields}
use Rattle.code.specs.Writing.{row_bytes, rows_bytes}
use Rattle.records.specs.Keeping as records
use Rattle.records.specs.Keeping.{Bytes, Stands}
use Rattle.fields.specs.Reading.{got}
use Rattle.records.specs.Records.{record_at}
use Rattle.fields.specs.declared.limits.Limits.{Limits}
use Rattle.records.proofs.Codec.{then_elim, got_value, got_place}
use Rattle.records.proofs.RoundTrip.{record_sound, record_complete}
use Rattle.records.proofs.Stands.{stands_next, stands_front, stands_back}
use Rattle.formula.specs.Formulas.{Rows, rows_at, next_row}
use Rattle.formula.specs.Keeping.{AllKeep}
use Rattle.formula.proofs.SoFar.{rows_bytes_push}

all_keep_push : (l : Limits) (fs : List Fields) (f : Fields) → AllKeep l fs → records.Keeps l f → AllKeep l (fs ++ (f ∷ []))
all_keep_push l [] f all here = (here, tt)
all_keep_push l (g ∷ fs) f all here = (all.0, all_keep_push l fs f all.1 here)

module _ (input : List ℕ) (bytes : Bytes input) (l : Limits) where
  abbrev Sound : ℕ → ℕ → Rows → ℕ → Type 0
  Sound at n r q =
      (q ≡ at + length (rows_bytes r.rows)) × Stands input at (rows_bytes r.rows) × AllKeep l r.rows × (length r.rows ≡ n)

  pub rows_sound : (at n : ℕ) (r : Rows) (q : ℕ) → rows_at l input at n ≡ got r q → Sound at n r q
  rows_sound at zero r q e =
      rw (← got_value e, ← got_place e) (sym (add-zero at), refl, tt, refl)
  rows_sound at (suc n) r q e =
      then_elim (rows_at l input at n) (next_row l input) r q e (λ r₀ p e₁ e₂.
      then_elim (record_at l input p) _ r q e₂ (λ f p₁ e₃ e₄.
      let before = rows_sound at n r₀ p e₁ in
      let here = record_sound input bytes l p f p₁ e₃ in
      let push = rows_bytes_push r₀.rows f in
      rw (← got_value e₄, ← got_place e₄, push) (
        here.0 ∙ rw before.0 (simp length-append (omega arith)),
        stands_next input at p (rows_bytes r₀.rows) (row_bytes f) before.0 before.1 here.1,
        all_keep_push l r₀.rows f before.2 here.2,
        length_push r₀.rows f ∙ (add-one (length r₀.rows) ∙ ap suc before.3),
      )))

  -- the rows behind those that were read
  abbrev ReadOn : ℕ → List Fields → List Fields → ℕ → Type 0
  ReadOn at ps fs place =
      (last : ℕ) × (rows_at l input at (length (ps ++ fs)) ≡ got (record { rows = ps ++ fs; last = last }) (place + length (rows_bytes fs)))

  rows_on : (at : ℕ) (fs ps : List Fields) (last place : ℕ)
      → rows_at l input at (length ps) ≡ got (record { rows = ps; last = last }) place
      → AllKeep l fs → Stands input place (rows_bytes fs) → ReadOn at ps fs place
  rows_on at [] ps last place e all stands = (last, rw (append-nil ps, add-zero place) e)
  rows_on at (f ∷ fs) ps last place e all stands =
      let here = record_complete input bytes l place f all.0 (stands_front input place (row_bytes f) (rows_bytes fs) stands) in
      let more : rows_at l input at (length (ps ++ (f ∷ []))) ≡ got (record { rows = ps ++ (f ∷ []); last = place }) (place + length (row_bytes f)) =
      rw (length_push ps f, add-one, e, here) refl in
      let rest = rows_on at fs (ps ++ (f ∷ [])) place (place + length (row_bytes f)) more all.1 (stands_back input place (row_bytes f) (rows_bytes fs) stands) in
      let same : (ps ++ (f ∷ [])) ++ fs ≡ ps ++ (f ∷ fs) = append_assoc ps (f ∷ []) fs in
      let end : (place + length (row_bytes f)) + length (rows_bytes fs) ≡ place + length (row_bytes f ++ rows_bytes fs) = simp length-append (omega arith) in
      (rest.0, rw (same, end) at rest.1)

  pub rows_complete : (at : ℕ) (fs : List Fields) → AllKeep l fs → Stands input at (rows_bytes fs)
      → (last : ℕ) × (rows_at l input at (length fs) ≡ got (record { rows = fs; last = last }) (at + length (rows_bytes fs)))
  rows_complete at fs all stands = rows_on at fs [] at at refl all stands
