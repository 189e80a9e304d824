use Rattle.numbers.specs.Sets.{has}
use Rattle.standing.specs.Standing.{graph_of, loose_in}
use Rattle.standing.proofs.Emptying.{some_there}
use Rattle.standing.proofs.Shapes.{loose_inside}
use Rattle.standing.proofs.standing.Standing.any_loose.Goals as goal

pub returns : goal.returns
returns c =
    let s = c.args.self.now in
    some_there (has c.loose.result) (loose_in s) (graph_of s).size c.is_empty.result c.loose.ensures c.is_empty.ensures.none c.is_empty.ensures.some (loose_inside s)
