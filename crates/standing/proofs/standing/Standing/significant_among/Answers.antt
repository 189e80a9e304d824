use Rattle.std.proofs.Common.{rules, ℕ, Bool, ap, ◌∙◌}
use Rattle.std.proofs.lemmas.Iterator.Consumers.{YieldsList-from_filter, count_from_yields_List}
use Rattle.numbers.specs.Iterating.{source, place}
use Rattle.numbers.specs.Sets.{has}
use Rattle.board.proofs.Members.{members_of, count_member}
use Rattle.session_laws.specs.Tests.{significant}
use Rattle.standing.specs.Standing.{graph_of, fixed_in, registers_of}
use Rattle.standing.proofs.Shapes.{graph_lawful}
use Rattle.standing.proofs.standing.Standing.significant_among.Goals as goal

pub returns : goal.returns
returns c =
    let s = c.args.self.now in
    let heavy : ℕ → Bool = significant (fixed_in s) (registers_of s) (graph_of s) in
    let from = c.filter.ensures.source in
    let members = members_of c.filter.result.iter c.args.set.now (ap source from ∙ c.iter.ensures.set) (ap place from ∙ c.iter.ensures.start) in
    count_from_yields_List c.filter.result _ c.count.ensures.ran
    (YieldsList-from_filter _ heavy members c.filter.ensures.closure (λ x b q k. search rules))
    ∙ count_member heavy (has c.args.set.now) 512 (graph_of s).size c.requires (graph_lawful s).most
