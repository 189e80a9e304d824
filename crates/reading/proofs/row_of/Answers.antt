use Rattle.std.proofs.Common.{◌≡◌, ◌≤◌, rules, sym, ◌∙◌, arith}
use Rattle.graph.specs.Shape.{Shape, Lawful}
use Rattle.numbers.specs.Sets.{has}
use Rattle.numbers.proofs.Picking.{picked}
use Rattle.session_laws.proofs.Cores.{far_inside}
use Rattle.reading.proofs.Reading.{not_standing}
use Rattle.reading.proofs.row_of.Goals as goal

pub returns : goal.returns
returns g c =
    let s : Shape = (g.H.Graph.means c.args.graph.now).shape in
    let l : Lawful s = g.H.Graph.lawful c.args.graph.now in
    let most : s.size ≤ 512 = l.most in
    let n : c.size.result ≡ s.size = c.size.ensures in
    picked _ _ (has c.of.result) (s.joined c.args.u) c.of.ensures (λ k b e. search rules)
    (λ k t. let here = far_inside s l c.args.u k t in omega arith)

pub returns-then-not-stands : goal.returns-then-not-stands
returns-then-not-stands g c v =
    let s : Shape = (g.H.Graph.means c.args.graph.now).shape in
    c.new.ensures v ∙ sym (not_standing s (g.H.Graph.lawful c.args.graph.now) c.args.u v (sym c.if-not-stands.ensures))
