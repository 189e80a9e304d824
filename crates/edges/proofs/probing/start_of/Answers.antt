use Rattle.std.proofs.Common.{refl}
use Rattle.edges.specs.Keys.{start}
use Rattle.edges.proofs.Places.{start_below}
use Rattle.edges.proofs.probing.start_of.Goals as goal

pub returns : goal.returns
unfolding start
returns c = record { place = refl; below = start_below c.args.slots c.args.word c.requires }
