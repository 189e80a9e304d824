use Rattle.std.proofs.Common.{rules, ◌≡◌, ℕ, Bool, ◌&&◌, ◌||◌, nat_lt, sym, ap, ◌∙◌}
use mathlib.Core.Path.{fun_ext}
use Rattle.std.proofs.lemmas.Iterator.Adapters.{option_map_id}
use Rattle.std.proofs.lemmas.Iterator.Search.{find_from_yields_List}
use Rattle.graph.specs.Counting.{count, first}
use Rattle.numbers.specs.Sets.{has}
use Rattle.board.proofs.Members.{members_of, find_member}
use Rattle.standing.specs.Standing.{graph_of, fixed_in, registers_of}
use Rattle.standing.proofs.Shapes.{graph_lawful}
use Rattle.standing.proofs.standing.Standing.light_in.Goals as goal

pub returns : goal.returns
returns c =
    let s = c.args.self.now in
    let g = graph_of s in
    let rest = has c.args.rest.now in
    let few : (ℕ → Bool) → ℕ → Bool = λ set v. nat_lt (count (λ w. g.joined v w && set w) g.size) (registers_of s) in
    let bound : has c.union-bound.result ≡ (λ w. fixed_in s w || rest w) =
    fun_ext (λ w. c.union-bound.ensures w ∙ ap (λ x. x || rest w) (c.fixed.ensures w)) in
    sym (option_map_id c.find.result)
    ∙ (find_from_yields_List (few (has c.union-bound.result)) _ _ c.find.result c.find.ensures.ran
    (members_of c.iter.result c.args.rest.now c.iter.ensures.set c.iter.ensures.start) (λ x b q k. search rules)
    ∙ (find_member (few (has c.union-bound.result)) rest 512 g.size c.requires (graph_lawful s).most
    ∙ ap (λ (set : ℕ → Bool). first (λ v. rest v && few set v) 0 g.size) bound))
