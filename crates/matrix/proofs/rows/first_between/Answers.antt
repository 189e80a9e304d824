use Rattle.std.proofs.Common.{ℕ, ◌/◌, ◌%◌, eqb, get_or, sym, ◌∙◌}
use Rattle.std.proofs.lemmas.Bool.{and_parts, eqb-true}
use Rattle.graph.proofs.Counting.{first_here, first_later}
use Rattle.matrix.specs.Layout.{bit_at}
use Rattle.matrix.proofs.Along.{first_byte}
use Rattle.matrix.proofs.rows.first_between.Goals as goal

pub loop-at-preserved-then-at-bits : goal.loop-at-preserved-then-at-bits
loop-at-preserved-then-at-bits c =
    let at : ℕ = c.loop-at.at in
    let both = and_parts (eqb (at % 8) 0) (eqb (get_or c.args.bits.now (at / 8) 0) 0) c.if-at-bits.true in
    c.loop-at.invariant ∙ first_byte c.args.bits.now at c.args.to (eqb-true (at % 8) 0 both.0)
    (eqb-true (get_or c.args.bits.now (at / 8) 0) 0 both.1)

pub returns-then-has_bit : goal.returns-then-has_bit
returns-then-has_bit c =
    sym (c.loop-at.invariant ∙ first_here (bit_at c.args.bits.now) c.loop-at.at c.args.to c.loop-at-test.true
    (sym c.if-has_bit.ensures))

pub loop-at-preserved : goal.loop-at-preserved
loop-at-preserved c =
    c.loop-at.invariant ∙ first_later (bit_at c.args.bits.now) c.loop-at.at c.args.to c.loop-at-test.true
    (sym c.if-has_bit.ensures)
