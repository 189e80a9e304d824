use Rattle.std.proofs.Common.{ℕ, ◌+◌, ◌/◌, ◌%◌, ◌≤◌, eqb, leb, get_or, sym, ◌∙◌, arith}
use lib.Count.{ones-le}
use Rattle.std.proofs.lemmas.Bool.{and_parts, eqb-true, leb-true}
use Rattle.matrix.specs.Layout.{bit_at}
use Rattle.matrix.proofs.Along.{between_le, between_byte, between_passed, between_failed}
use Rattle.matrix.proofs.rows.ones_between.Goals as goal
use Rattle.matrix.proofs.rows.ones_between.Goals.{then-has_bit, else-has_bit}

pub overflow_cast-found : goal.overflow_cast-found
overflow_cast-found c =
    let few = ones-le 8 (get_or c.args.bits.now (c.loop-at.at / 8) 0) (c.type_inv.bits (c.loop-at.at / 8)).fits in
    omega arith

pub overflow_add-found : goal.overflow_add-found
overflow_add-found c =
    let few = ones-le 8 (get_or c.args.bits.now (c.loop-at.at / 8) 0) (c.type_inv.bits (c.loop-at.at / 8)).fits in
    let most = between_le (bit_at c.args.bits.now) c.args.from c.loop-at.at in
    omega (arith, c.loop-at.invariant.2, c.loop-at.invariant.1, c.ranges.to)

pub loop-at-preserved-then-at-to : goal.loop-at-preserved-then-at-to
loop-at-preserved-then-at-to c =
    let at : ℕ = c.loop-at.at in
    let both = and_parts (eqb (at % 8) 0) (leb (at + 8) c.args.to) c.if-at-to.true in
    let inside : at + 8 ≤ c.args.to = leb-true (at + 8) c.args.to both.1 in (
      omega (arith, c.loop-at.invariant.0),
      inside,
      between_byte c.args.bits.now c.args.from at c.loop-at.found c.loop-at.invariant.0 (eqb-true (at % 8) 0 both.0)
          (c.type_inv.bits (at / 8)).fits c.loop-at.invariant.2,
    )

pub overflow_add-found-then-has_bit : goal.overflow_add-found-then-has_bit
overflow_add-found-then-has_bit c =
    let most = between_le (bit_at c.args.bits.now) c.args.from c.loop-at.at in
    omega (arith, c.loop-at.invariant.2, c.loop-at.invariant.1, c.loop-at-test.true, c.ranges.to)

pub loop-at-preserved : goal.loop-at-preserved
loop-at-preserved c =
    let p = bit_at c.args.bits.now in (
      omega (arith, c.loop-at.invariant.0),
      omega (arith, c.loop-at-test.true),
      elim c.if-has_bit.branch [
        | then-has_bit w ↦ w.found-is
            ∙ between_passed p c.args.from c.loop-at.at c.loop-at.found c.loop-at.invariant.0 c.loop-at.invariant.2 (sym w.if-has_bit.ensures)
        | else-has_bit w ↦ w.found-is
            ∙ between_failed p c.args.from c.loop-at.at c.loop-at.found c.loop-at.invariant.0 c.loop-at.invariant.2 (sym w.if-has_bit.ensures)
      ],
    )
