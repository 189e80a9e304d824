use Rattle.std.proofs.Common.{◌≡◌, ℕ, ◌+◌, ◌≤◌, max, ap, ◌∙◌, arith}
use Rattle.graph.specs.Shape.{next}
use Rattle.matrix.specs.Matrix.{matrix_shape}
use Rattle.matrix.proofs.Neighbours.{next_outside, next_found, next_missed, next_from_own, next_above, row_end}
use Rattle.matrix.proofs.Triangle.{triangle_most}
use Rattle.matrix.proofs.store.BitMatrixGraph.next.Goals as goal
use Rattle.matrix.proofs.store.BitMatrixGraph.next.Goals.{then-from-u+in_default, else-from-u}

pub returns-then-u-self : goal.returns-then-u-self
returns-then-u-self c = next_outside c.args.self.now.n c.args.self.now.bits.now c.args.u c.args.from c.if-u-self.true

pub first_between-requires : goal.first_between-requires
first_between-requires c =
    let m = c.args.self.now in
    let ends = row_end m.n c.args.u c.if-u-self.false in
    let most = triangle_most m.n m.room.1 in
    let row = c.row_start-row.ensures.place in
    (omega (arith, c.if-from-u.true), (omega (arith, m.room.2), omega arith))

pub overflow_sub-result : goal.overflow_sub-result
overflow_sub-result c =
    let m = c.args.self.now in
    (next_found m.n m.bits.now c.args.u c.args.from c.row_start-row.result c.in-Some.place c.if-u-self.false
    (omega (arith, c.if-from-u.true)) c.row_start-row.ensures.place c.in-Some.ensures).0

pub returns-in-Some : goal.returns-in-Some
returns-in-Some c =
    let m = c.args.self.now in
    (next_found m.n m.bits.now c.args.u c.args.from c.row_start-row.result c.in-Some.place c.if-u-self.false
    (omega (arith, c.if-from-u.true)) c.row_start-row.ensures.place c.in-Some.ensures).1

pub returns : goal.returns
returns c =
    let m = c.args.self.now in
    let u : ℕ = c.args.u in
    let from : ℕ = c.args.from in
    let start : c.max.result ≡ max from (u + 1) = c.max.ensures in
    let above-all = c.first_above.ensures ∙ next_above m.n m.bits.now u c.max.result (omega arith) in
    let from_start = above-all ∙ ap (next (matrix_shape m.n m.bits.now) u) start in
    elim c.if-from-u.branch [
      | then-from-u+in_default w ↦
          let below : from ≤ u = omega (arith, w.if-from-u.true) in
          let same : max from (u + 1) ≡ u + 1 = omega arith in
          from_start ∙ (ap (next (matrix_shape m.n m.bits.now) u) same
          ∙ next_missed m.n m.bits.now u from w.row_start-row.result c.if-u-self.false below w.row_start-row.ensures.place
          w.in_default.ensures)
      | else-from-u w ↦ from_start ∙ next_from_own m.n m.bits.now u from c.if-u-self.false w.if-from-u.false
    ]
