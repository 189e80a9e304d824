use Rattle.std.proofs.Common.{◌≡◌, rules, length, ◌∙◌, arith}
use Rattle.std.proofs.lemmas.Iterator.{YieldsList-from_range}
use Rattle.std.proofs.lemmas.Iterator.Consumers.{YieldsList-from_filter, count_from_yields_List}
use borrow.Author.Tests.{tests}
use Rattle.std.specs.List.{filter, range_with_len}
use Rattle.graph.proofs.Counting.{count_range}
use Rattle.graph.proofs.passing.count_passing.Goals as goal

pub returns : goal.returns
returns g c p h =
    let chain : c.count.result ≡ length (filter p (range_with_len 0 c.args.n)) =
    count_from_yields_List _ _ c.count.ensures.ran
    (YieldsList-from_filter _ p (YieldsList-from_range 0 c.args.n c.args.n (cc) (omega arith)) c.filter.ensures.closure (λ x r q k. search (rules, tests))) in
    chain ∙ count_range p c.args.n
