use Rattle.std.proofs.Common.{arith}
use Rattle.liveness.specs.Ranks.{rank}
use Rattle.liveness.proofs.way.rank.rank_at.Goals as goal

pub returns : goal.returns
unfolding rank
returns c = grind arith
