use Rattle.std.proofs.Common.{ℕ, ◌+◌, sym, ap, ◌∙◌, arith}
use Rattle.matrix.specs.Layout.{bit_at}
use Rattle.matrix.specs.Rows.{above}
use Rattle.matrix.proofs.Along.{between_le, between_passed, between_failed}
use Rattle.matrix.proofs.Neighbours.{row_byte}
use Rattle.matrix.proofs.rows.ones_above.Goals as goal
use Rattle.matrix.proofs.rows.ones_above.Goals.{then-has_bit, else-has_bit}

pub has_bit-requires : goal.has_bit-requires
has_bit-requires c =
    let byte = row_byte c.args.n c.args.u c.loop-v.v (omega (arith, c.loop-v.auto.v)) c.loop-v-test.true in
    omega (arith, c.row_start.ensures.place, c.requires.1.1)

pub overflow_add-found : goal.overflow_add-found
overflow_add-found c =
    let most = between_le (above c.args.bits.now c.args.u) (c.args.u + 1) c.loop-v.v in
    omega (arith, c.loop-v.invariant, c.loop-v-test.true, c.ranges.n)

pub loop-v-preserved : goal.loop-v-preserved
loop-v-preserved c =
    let p = above c.args.bits.now c.args.u in
    let place = ap (λ (row : ℕ). bit_at c.args.bits.now (row + c.args.u)) c.row_start.ensures.place in
    elim c.if-has_bit.branch [
      | then-has_bit w ↦ w.found-is
          ∙ between_passed p (c.args.u + 1) c.loop-v.v c.loop-v.found c.loop-v.auto.v c.loop-v.invariant (sym (w.if-has_bit.ensures ∙ place))
      | else-has_bit w ↦ w.found-is
          ∙ between_failed p (c.args.u + 1) c.loop-v.v c.loop-v.found c.loop-v.auto.v c.loop-v.invariant (sym (w.if-has_bit.ensures ∙ place))
    ]
