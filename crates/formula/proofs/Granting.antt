-- A record that keeps the rules fits the code of its formula.
use Rattle.std.proofs.Common.{◌≡◌, ℕ, ◌+◌, ◌<◌, ◌≤◌, true, ltb, List, length, Some, None, Option, refl, arith}
use Rattle.std.proofs.lemmas.Bool.{and_parts, and_from, lt-ltb}
use Rattle.std.proofs.lemmas.Bool.Decides.{nat_tests}
use Rattle.code.specs.Codes.{rows_of, takes}
use Rattle.code.specs.Fits.{below, row_fits}
use Rattle.code.specs.Rows.{fields}
use Rattle.code.specs.declared.body.Code.{Code}
use Rattle.code.specs.declared.row.Row.{Row}
use Rattle.code.proofs.Asking.{code_length}
use Rattle.fields.specs.InUse.{in_use}
use Rattle.records.specs.Keeping.{Keeps, passes, short}
use Rattle.fields.specs.declared.limits.Limits.{Limits}

-- a number in use is below the number of numbers
used_below : (l : Limits) (v : ℕ) → l.k0 ≤ 16 → l.k1 ≤ 16 → in_use l v ≡ true → v < 32 + l.values
used_below l v few₀ few₁ e = grind (arith, nat_tests)

operand_below : (l : Limits) (o : Option ℕ) → l.k0 ≤ 16 → l.k1 ≤ 16 → passes (short (in_use l)) o ≡ true → below (32 + l.values) o ≡ true
operand_below l None few₀ few₁ e = refl
operand_below l (Some v) few₀ few₁ e =
    lt-ltb v (32 + l.values) (used_below l v few₀ few₁ (and_parts (ltb v 65536) (in_use l v) e).1)

target_below : (n : ℕ) (o : Option ℕ) → passes (short (λ t. ltb t n)) o ≡ true → below n o ≡ true
target_below n None e = refl
target_below n (Some t) e = (and_parts (ltb t 65536) (ltb t n) e).1

pub keeps_fits : (l : Limits) (row : Row (List ℕ)) → l.k0 ≤ 16 → l.k1 ≤ 16 → Keeps l (fields row) → row_fits (32 + l.values) l.targets row ≡ true
unfolding row_fits
keeps_fits l row few₀ few₁ k =
    and_from _ _ (operand_below l (fields row).destination few₀ few₁ k.destination)
    (and_from _ _ (operand_below l (fields row).first few₀ few₁ k.first)
    (and_from _ _ (operand_below l (fields row).second few₀ few₁ k.second)
    (target_below l.targets (fields row).target k.target)))

-- so code with room takes it
pub granted : (l : Limits) (code : Code) (row : Row (List ℕ)) → l.k0 ≤ 16 → l.k1 ≤ 16 → code.reach ≡ l.targets → code.numbers ≡ 32 + l.values
    → length (rows_of code) < code.reach → Keeps l (fields row) → takes code row ≡ true
granted l code row few₀ few₁ reach numbers room k =
    let less : code.len < code.reach = omega (arith, code_length code) in
    and_from (ltb code.len code.reach) (row_fits code.numbers code.reach row)
    (lt-ltb code.len code.reach less) (rw (reach, numbers) (keeps_fits l row few₀ few₁ k))
