use Rattle.std.proofs.Common.{rules, ◌≡◌, ℕ, Bool, not, ◌&&◌, sym, ap, ◌∙◌, ap₂}
use mathlib.Core.Path.{fun_ext}
use Rattle.std.proofs.lemmas.Bool.{and_parts}
use Rattle.std.proofs.lemmas.Iterator.Search.{any_from_yields_List}
use Rattle.graph.specs.Counting.{any}
use Rattle.numbers.specs.Sets.{has}
use Rattle.board.proofs.Members.{members_of, any_member}
use Rattle.session_laws.proofs.Cores.{far_inside}
use Rattle.session_laws.specs.Tests.{george, significant}
use Rattle.standing.specs.Standing.{graph_of, fixed_in, registers_of}
use Rattle.standing.proofs.Shapes.{graph_lawful}
use Rattle.standing.proofs.standing.Standing.george.Goals as goal

pub returns : goal.returns
unfolding george
returns c =
    let s = c.args.self.now in
    let g = graph_of s in
    let heavy : ℕ → Bool = significant (fixed_in s) (registers_of s) g in
    let beyond : (w : ℕ) → has c.difference-beyond.result w ≡ (g.joined c.args.v w && not (g.joined c.args.u w)) =
    λ w. c.difference-beyond.ensures w ∙ ap₂ (λ x y. x && not y) (c.row.ensures w) (c.row-2.ensures w) in
    ap not (any_from_yields_List heavy _ _ c.any.result c.any.ensures.ran (members_of c.iter.result c.difference-beyond.result c.iter.ensures.set c.iter.ensures.start) (λ x b q k. search rules)
    ∙ (any_member heavy (has c.difference-beyond.result) g.size
    (λ w h. far_inside g (graph_lawful s) c.args.v w (and_parts (g.joined c.args.v w) _ (sym (beyond w) ∙ h)).0) (graph_lawful s).most
    ∙ ap (λ (p : ℕ → Bool). any (λ w. p w && heavy w) g.size) (fun_ext beyond)))
