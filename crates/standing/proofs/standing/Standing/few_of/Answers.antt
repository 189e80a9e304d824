use Rattle.std.proofs.Common.{ℕ, ltb, ◌&&◌, ap, ◌∙◌}
use Rattle.numbers.specs.Sets.{has}
use Rattle.standing.specs.Standing.{base_of, registers_of}
use Rattle.standing.proofs.Shapes.{row_size}
use Rattle.standing.proofs.standing.Standing.few_of.Goals as goal

pub returns : goal.returns
unfolding base_of
returns c =
    let s = c.args.self.now in
    let set = has c.args.set.now in
    ap (λ (k : ℕ). ltb k (registers_of s))
    (c.len.ensures.value ∙ row_size s c.args.v (has c.intersection.result) set (λ w. c.intersection.ensures w ∙ ap (λ x. x && set w) (c.row.ensures w)))
