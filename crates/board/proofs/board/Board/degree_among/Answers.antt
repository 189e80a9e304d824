use Rattle.std.proofs.Common.{◌&&◌, ap, ◌∙◌}
use Rattle.std.proofs.lemmas.Bool.{and_left}
use Rattle.numbers.specs.Sets.{has}
use Rattle.board.specs.Boards.{merged_graph, opened_graph}
use Rattle.board.proofs.Boards.{merged_lawful, opened_lawful}
use Rattle.board.proofs.Bridging.{set_size, none_joined}
use Rattle.board.proofs.board.Board.degree_among.Goals as goal

pub returns : goal.returns
returns c =
    let b = c.args.self.now in
    let u = c.args.u in
    c.len.ensures.value ∙ set_size (has c.intersection.result)
    (λ v. (merged_graph b).joined u v && has c.args.among.now v) (opened_graph b).size (opened_lawful b).most
    (λ v. c.intersection.ensures v ∙ ap (λ x. x && has c.args.among.now v) (c.row.ensures v))
    (λ v h. and_left _ _ (none_joined (merged_graph b) (merged_lawful b) u v h))
