use Rattle.std.proofs.Common.{ℕ, List, refl, ap, ◌∙◌, Ok, sym}
use Rattle.matrix.specs.Matrix.{matrix_meaning, behind}
use Rattle.matrix.proofs.Adding.{matrix_fresh, matrix_byte, matrix_answer, matrix_after, written_bit, fresh_byte, behind_bit}
use Rattle.matrix.proofs.store.BitMatrixGraph.join.Goals as goal

pub bounds-self-place : goal.bounds-self-place
bounds-self-place c =
    let m = c.args.self.now in
    let fresh = matrix_fresh m.n m.bits.now c.args.u c.args.v c.joined.result c.joined.ensures (sym (c.in_ok-judge.was ∙ ap Ok c.in-Fresh.is) ∙ c.judge.ensures) in
    matrix_byte m.n m.bits.now c.args.u c.args.v c.cell_of-place.result fresh c.cell_of-place.ensures m.room.2

pub bounds-self-place-in-Fresh : goal.bounds-self-place-in-Fresh
bounds-self-place-in-Fresh c =
    let m = c.args.self.now in
    let fresh = matrix_fresh m.n m.bits.now c.args.u c.args.v c.joined.result c.joined.ensures (sym (c.in_ok-judge.was ∙ ap Ok c.in-Fresh.is) ∙ c.judge.ensures) in
    matrix_byte m.n m.bits.now c.args.u c.args.v c.cell_of-place.result fresh c.cell_of-place.ensures m.room.2

pub returns-in-Fresh : goal.returns-in-Fresh
returns-in-Fresh c =
    let m = c.args.self.now in
    let n : ℕ = m.n in
    let bytes : List ℕ = m.bits.now in
    let u : ℕ = c.args.u in
    let v : ℕ = c.args.v in
    let fresh = matrix_fresh n bytes u v c.joined.result c.joined.ensures (sym (c.in_ok-judge.was ∙ ap Ok c.in-Fresh.is) ∙ c.judge.ensures) in
    let byte = fresh_byte n bytes u v fresh in
    let written = written_bit bytes c.cell_of-place.result _ c.cell_of-place.ensures in
    let after = ap (matrix_meaning n) written ∙ matrix_after n bytes u v m.room.0 m.room.1 fresh
    (matrix_byte n bytes u v _ fresh refl m.room.2) in
    record {
      answer = matrix_answer n bytes u v m.room.0 m.room.1 fresh;
      after = after;
      left = (refl, refl, ap (behind n) written ∙ behind_bit n bytes _ byte, after);
    }
