use Rattle.std.proofs.Common.{◌≡◌, ◌≤◌, rules, arith}
use Rattle.graph.specs.Shape.{Shape, Lawful}
use Rattle.numbers.specs.Sets.{has}
use Rattle.numbers.proofs.Picking.{picked}
use Rattle.reading.proofs.vertices_of.Goals as goal

pub returns : goal.returns
returns g c =
    let s : Shape = (g.H.Graph.means c.args.graph.now).shape in
    let l : Lawful s = g.H.Graph.lawful c.args.graph.now in
    let most : s.size ≤ 512 = l.most in
    let n : c.size.result ≡ s.size = c.size.ensures in
    picked _ _ (has c.of.result) s.stands c.of.ensures (λ k b e. search rules)
    (λ k t. let here = l.inside k t in omega arith)
