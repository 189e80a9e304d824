-- A formula from its parts.
use Rattle.std.proofs.Common.{◌≡◌, ℕ, List, Ok, Err, Result, refl, ap, MatchResult}
use Rattle.code.specs.Codes.{rows_of}
use Rattle.liveness.specs.Laws.{AllDefined}
use Rattle.liveness.specs.Ways.{LowestUndefined}
use Rattle.fields.specs.Reading.{got}
use Rattle.fields.specs.declared.limits.Limits.{Limits}
use Rattle.formula.specs.Formulas.{Rows, rows_at, finished, formula_at}
use Rattle.formula.specs.Faults.{number_of, place_of}
use Rattle.formula.specs.Headers as headers
use Rattle.formula.specs.Outcome.{Answered, meaning}
use Rattle.formula.specs.declared.fault.FormulaFault.{FormulaFault}
use Rattle.formula.specs.declared.formula.Formula as checked
use Rattle.formula.specs.Headers.{header_at, limits_of}

-- a header and as many records as it says, read one after the other, are the formula but for its ends
pub assembled : (bytes : List ℕ) (h : headers.Fields) (p : ℕ) (l : Limits) (at n : ℕ) (r : Rows) (q : ℕ) → got h p ≡ header_at bytes
    → l ≡ limits_of h → at ≡ p → n ≡ h.records → got r q ≡ rows_at l bytes at n → formula_at bytes ≡ finished bytes h r q
unfolding formula_at
assembled bytes h p l at n r q header limits place count rows =
    let all : rows_at (limits_of h) bytes p h.records ≡ got r q = cc in
    rw (← header, all) refl

-- the last rule, put to a formula that was read
pub answered : (f : checked.Formula) (r : Result checked.Formula FormulaFault) (n : ℕ)
    → MatchResult r (λ g. (g ≡ f) × AllDefined (rows_of f.code)) (λ e. (number_of e ≡ 12) × LowestUndefined (rows_of f.code) (place_of e))
    → Answered (got (meaning f) n) r
answered f (Ok g) n h = (ap meaning h.0, h.1)
answered f (Err e) n h = h
