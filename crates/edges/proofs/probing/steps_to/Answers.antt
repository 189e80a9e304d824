use Rattle.std.proofs.Common.{ℕ, ◌-◌, Bool, true, false, ◌≡◌, length, rules, tests, ◌∙◌, ap, arith}
use Rattle.std.proofs.lemmas.Iterator.{first_from_Range}
use Rattle.graph.specs.Counting.{first}
use Rattle.graph.proofs.Counting.{first_is, first_inside}
use Rattle.edges.specs.Table.{stops, landing}
use Rattle.edges.proofs.probing.steps_to.Goals as goal

pub returns : goal.returns
returns c =
    let words = c.args.words.now in
    let p : ℕ → Bool = stops words c.args.word in
    let all : length words - 0 ≡ length words = omega arith in
    let found : c.find.result ≡ landing words c.args.word =
    first_is p 0 (length words) c.find.result
    (first_from_Range _ _ _ _ (λ d. p d ≡ true) (λ d. p d ≡ false) c.find.ensures.ran (λ x q k. search (rules, tests)) (λ x q k. search (rules, tests)))
    ∙ ap (first p 0) all in
    record { steps = found; inside = first_inside p (length words) c.find.result found }
