use Rattle.std.proofs.Common.{rules, ℕ, Bool, ◌&&◌, sym, ap, ◌∙◌}
use mathlib.Core.Path.{fun_ext}
use Rattle.std.proofs.lemmas.Iterator.Search.{any_from_yields_List}
use Rattle.graph.specs.Counting.{any}
use Rattle.numbers.specs.Sets.{has}
use Rattle.board.proofs.Members.{members_of, any_member}
use Rattle.standing.specs.Standing.{graph_of, light_at}
use Rattle.standing.proofs.Shapes.{graph_lawful, loose_inside}
use Rattle.standing.proofs.standing.Standing.any_light.Goals as goal

pub returns : goal.returns
returns c =
    let s = c.args.self.now in
    any_from_yields_List (light_at s) _ _ _ c.any.ensures.ran (members_of c.iter.result c.loose.result c.iter.ensures.set c.iter.ensures.start) (λ x b q k. search rules)
    ∙ (any_member (light_at s) (has c.loose.result) (graph_of s).size (λ v h. loose_inside s v (sym (c.loose.ensures v) ∙ h)) (graph_lawful s).most
    ∙ ap (λ (p : ℕ → Bool). any (λ v. p v && light_at s v) (graph_of s).size) (fun_ext c.loose.ensures))
