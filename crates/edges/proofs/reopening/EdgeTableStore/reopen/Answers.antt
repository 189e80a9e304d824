use Rattle.std.proofs.Common.{◌≡◌, ℕ, ◌/◌, List, length, Result, ap, ◌∙◌}
use lib.ListN.{length-replicate}
use Rattle.graph.specs.Shape.{Meaning}
use Rattle.graph.specs.Stores.{empty_store, renewed}
use Rattle.graph.specs.declared.opening.OpeningRefusal.{OpeningRefusal}
use Rattle.edges.specs.Table.{table_meaning, two_slots, half_of}
use Rattle.edges.proofs.reopening.EdgeTableStore.reopen.Goals as goal

pub returns : goal.returns
returns c =
    let words : List ℕ = c.args.self.words.now in
    let granted = c.in-Ok.ensures in
    let long : length c.open.result.words.now ≡ length words = ap length c.open.ensures.words ∙ length-replicate (length words) 0 in
    let by_answer : Result (Unit {0}) OpeningRefusal → Meaning =
    λ r. renewed r (empty_store c.args.n (length words / 2)) (table_meaning c.args.self.n words) in
    record {
      after = c.open.ensures.empty ∙ ap by_answer granted;
      holds = ap two_slots long;
      room = ap half_of long;
    }
