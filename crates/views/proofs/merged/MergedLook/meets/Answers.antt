use Rattle.std.proofs.Common.{rules, tests, refl, Bool, ◌&&◌, ◌==◌, ℕ, ◌∙◌, arith}
use Rattle.std.proofs.lemmas.Iterator.{YieldsList-from_range}
use Rattle.std.proofs.lemmas.Iterator.Search.{any_from_yields_List}
use Rattle.graph.specs.Shape.{Shape}
use Rattle.views.specs.Groups.{group_at}
use Rattle.graph.proofs.Chains.{any_below}
use Rattle.views.proofs.merged.MergedLook.meets.Goals as goal

pub returns : goal.returns
returns g c =
    let s : Shape = (g.G.Graph.means c.args.below.now).shape in
    let test : ℕ → Bool = λ b. (group_at c.args.self.now.table.to b == c.args.v) && s.joined c.args.a b in
    any_from_yields_List test _ _ c.any.result c.any.ensures.ran (YieldsList-from_range 0 c.size.result s.size refl (omega (arith, c.size.ensures))) (λ x b q k. search (rules, tests))
    ∙ any_below test s.size
