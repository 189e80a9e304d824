-- The worked cases compute, and the worked formula uses no value before it is set.
use Rattle.std.proofs.Common.{◌≡◌, ℕ, zero, suc, Bool, true, false, ◌&&◌, ◌||◌, eqb, refl, inl, inr}
use Rattle.std.proofs.lemmas.Bool.{false≢true, both_ways, eqb-true, or_cases}
use Rattle.records.specs.Records.{record_at}
use Rattle.liveness.specs.Flow.{reads, sets, follows}
use Rattle.liveness.specs.Laws.{AllDefined}
use Rattle.liveness.proofs.Lawful.{lawful}
use Rattle.formula.specs.Formulas.{formula_at}
use Rattle.formula.specs.Headers.{header_at}
use Rattle.formula.specs.Worked.{Worked, square_rows}

-- the values that are live before each row of the worked formula, and maybe no others
abbrev at_most : ℕ → ℕ → Bool
at_most i v = (eqb i 1 && eqb v 32) || ((eqb i 2 && eqb v 33) || (eqb i 3 && eqb v 34))

only_left : (b : Bool) → (b || false) ≡ true → b ≡ true
only_left true e = refl
only_left false e = e

has_read : (i v : ℕ) → reads square_rows i v ≡ true → at_most i v ≡ true
unfolding reads
has_read zero v h = absurd (false≢true h)
has_read (suc zero) v h = h
has_read (suc (suc zero)) v h = elim (or_cases (eqb v 33) (eqb v 33) h) [ inl e ↦ rw e refl | inr e ↦ rw e refl ]
has_read (suc (suc (suc zero))) v h = only_left (eqb v 34) h
has_read (suc (suc (suc (suc zero)))) v h = absurd (false≢true h)
has_read (suc (suc (suc (suc (suc i))))) v h = absurd (false≢true h)

has_later : (i j v : ℕ) → sets square_rows i v ≡ false → follows square_rows i j ≡ true → at_most j v ≡ true → at_most i v ≡ true
unfolding sets follows
has_later zero j v unset next live =
    let l : (eqb v 32 || false) ≡ true = rw (eqb-true j 1 next) at live in
    absurd (both_ways (eqb v 32) unset (only_left (eqb v 32) l))
has_later (suc zero) j v unset next live =
    let l : (eqb v 33 || false) ≡ true = rw (eqb-true j 2 next) at live in
    absurd (both_ways (eqb v 33) unset (only_left (eqb v 33) l))
has_later (suc (suc zero)) j v unset next live =
    let l : eqb v 34 ≡ true = rw (eqb-true j 3 next) at live in
    absurd (both_ways (eqb v 34) unset l)
has_later (suc (suc (suc zero))) j v unset next live =
    let l : false ≡ true = rw (eqb-true j 4 next) at live in
    absurd (false≢true l)
has_later (suc (suc (suc (suc zero)))) j v unset next live = absurd (false≢true next)
has_later (suc (suc (suc (suc (suc i))))) j v unset next live = absurd (false≢true next)

defined : AllDefined square_rows
defined v large live =
    false≢true ((lawful square_rows).least at_most (record { has_read = has_read; has_later = has_later }) 0 v live)

pub worked : Worked
unfolding formula_at header_at record_at
worked = record {
  empty = refl;
  too_many_values = refl;
  most_values = refl;
  no_records = refl;
  accepted = refl;
  defined = defined;
  five_records = refl;
  one_move = refl;
}
