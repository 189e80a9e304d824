use Rattle.std.proofs.Common.{rules, ◌≡◌, ℕ}
use Rattle.graph.specs.Shape.{Shape, Lawful}
use Rattle.numbers.specs.Sets.{has}
use Rattle.board.proofs.Making.{made_at}
use Rattle.reading.proofs.Reading.{rows_are}
use Rattle.reading.proofs.rows_of.Goals as goal

pub returns : goal.returns
returns g c =
    let s : Shape = (g.H.Graph.means c.args.graph.now).shape in
    let l : Lawful s = g.H.Graph.lawful c.args.graph.now in
    let items = c.from_fn.ensures.items in
    rows_are s l c.from_fn.result items.long
    (made_at c.from_fn.result items (λ u row. (v : ℕ) → has row v ≡ s.joined u v) (λ x y q e. search rules))
