use Rattle.std.proofs.Common.{ℕ, ◌+◌, sym, ap, ◌∙◌, arith}
use Rattle.graph.proofs.Counting.{first_here, first_later}
use Rattle.matrix.specs.Layout.{bit_at}
use Rattle.matrix.specs.Rows.{above}
use Rattle.matrix.proofs.Neighbours.{row_byte}
use Rattle.matrix.proofs.rows.first_above.Goals as goal

pub has_bit-requires : goal.has_bit-requires
has_bit-requires c =
    let byte = row_byte c.args.n c.args.u c.loop-v.v (omega (arith, c.loop-v.auto.v, c.requires.0)) c.loop-v-test.true in
    omega (arith, c.row_start.ensures.place, c.requires.1.1)

pub returns-then-has_bit : goal.returns-then-has_bit
returns-then-has_bit c =
    let place = ap (λ (row : ℕ). bit_at c.args.bits.now (row + c.args.u)) c.row_start.ensures.place in
    sym (c.loop-v.invariant ∙ first_here (above c.args.bits.now c.args.u) c.loop-v.v c.args.n c.loop-v-test.true
    (sym (c.if-has_bit.ensures ∙ place)))

pub loop-v-preserved : goal.loop-v-preserved
loop-v-preserved c =
    let place = ap (λ (row : ℕ). bit_at c.args.bits.now (row + c.args.u)) c.row_start.ensures.place in
    c.loop-v.invariant ∙ first_later (above c.args.bits.now c.args.u) c.loop-v.v c.args.n c.loop-v-test.true
    (sym (c.if-has_bit.ensures ∙ place))
