use Rattle.std.proofs.Common.{◌∙◌}
use Rattle.numbers.specs.Sets.{has}
use Rattle.board.proofs.Bridging.{set_size, none_joined}
use Rattle.standing.specs.Standing.{graph_of}
use Rattle.standing.proofs.Shapes.{graph_lawful}
use Rattle.standing.proofs.standing.Standing.degree.Goals as goal

pub returns : goal.returns
returns c =
    let g = graph_of c.args.self.now in
    let l = graph_lawful c.args.self.now in
    c.len.ensures.value ∙ set_size (has c.row.result) (g.joined c.args.u) g.size l.most c.row.ensures (none_joined g l c.args.u)
