use Rattle.std.proofs.Common.{ℕ, ◌+◌, ap, ◌∙◌, ap₂, arith}
use Rattle.matrix.specs.Layout.{bit_at}
use Rattle.matrix.specs.Rows.{between, above}
use Rattle.matrix.proofs.Along.{between_le}
use Rattle.matrix.proofs.Neighbours.{degree_outside, degree_rows, row_end}
use Rattle.matrix.proofs.Triangle.{triangle_most}
use Rattle.matrix.proofs.store.BitMatrixGraph.degree.Goals as goal

pub returns-then-u-self : goal.returns-then-u-self
returns-then-u-self c = degree_outside c.args.self.now.n c.args.self.now.bits.now c.args.u c.if-u-self.true

pub ones_between-requires : goal.ones_between-requires
ones_between-requires c =
    let m = c.args.self.now in
    let ends = row_end m.n c.args.u c.if-u-self.false in
    let most = triangle_most m.n m.room.1 in
    let row = c.row_start-row.ensures.place in
    (omega arith, (omega (arith, m.room.2), omega arith))

pub overflow_add-result : goal.overflow_add-result
overflow_add-result c =
    let m = c.args.self.now in
    let row : ℕ = c.row_start-row.result in
    let few = between_le (bit_at m.bits.now) row (row + c.args.u) in
    let rest = between_le (above m.bits.now c.args.u) (c.args.u + 1) m.n in
    omega (arith, c.ones_between.ensures, c.ones_above.ensures, m.room.1, c.if-u-self.false)

pub returns : goal.returns
returns c =
    let m = c.args.self.now in
    let row = c.row_start-row.ensures.place in
    let lower = c.ones_between.ensures ∙ ap (λ (x : ℕ). between (bit_at m.bits.now) x (x + c.args.u)) row in
    ap₂ (λ (x y : ℕ). x + y) lower c.ones_above.ensures ∙ degree_rows m.n m.bits.now c.args.u c.if-u-self.false
