use Rattle.std.proofs.Common.{ℕ, Bool, ◌&&◌, eqb, refl, ap, ◌∙◌, rules, tests, arith}
use Rattle.std.proofs.lemmas.Iterator.{YieldsList-from_range}
use Rattle.std.proofs.lemmas.Iterator.Search.{any_from_yields_List}
use Rattle.graph.specs.Counting.{any}
use Rattle.kept.specs.Kept.{state_of}
use Rattle.graph.proofs.Chains.{any_below}
use Rattle.kept.proofs.Verdicts.{size_is}
use Rattle.kept.proofs.kept.Kept.holds_temporary.Goals as goal

pub returns : goal.returns
unfolding state_of
returns c =
    let k = c.args.self.now in
    let test : ℕ → Bool = λ w. (state_of k).temporary w && eqb ((state_of k).table w) c.args.v in
    any_from_yields_List test _ _ _ c.any.ensures.ran (YieldsList-from_range 0 c.size.result c.size.result refl (omega arith)) (λ x b q h. search (rules, tests)) ∙
    (any_below test c.size.result ∙ ap (any test) (c.size.ensures ∙ size_is k))
