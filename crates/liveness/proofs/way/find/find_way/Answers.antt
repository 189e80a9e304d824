use Rattle.std.proofs.Common.{◌≤◌, arith}
use Rattle.code.specs.Codes.{rows_of}
use Rattle.liveness.specs.Ranks.{rank}
use Rattle.liveness.proofs.Leading.{ranked_none, shortest_of, not_live}
use Rattle.liveness.proofs.Sweeps.{few_rows, level_all}
use Rattle.liveness.proofs.way.find.find_way.Goals as goal

pub settle-requires : goal.settle-requires
settle-requires c = (omega arith, ranked_none (rows_of c.args.code.now) c.args.value 512)

pub returns-then-rank_at-ge-NO_WAY-clause-found : goal.returns-then-rank_at-ge-NO_WAY-clause-found
returns-then-rank_at-ge-NO_WAY-clause-found c =
    let rows = rows_of c.args.code.now in
    let ranks = c.settle.new.facts in
    let level = level_all rows c.args.value ranks c.settle.ensures.settled in
    let none : 512 ≤ rank ranks 0 = omega arith in
    not_live rows c.args.value ranks level c.settle.ensures.sound (few_rows c.args.code.now) none

pub walk-requires-clause-level : goal.walk-requires-clause-level
walk-requires-clause-level c = level_all (rows_of c.args.code.now) c.args.value c.settle.new.facts c.settle.ensures.settled

pub returns-clause-found : goal.returns-clause-found
returns-clause-found c =
    let rows = rows_of c.args.code.now in
    let ranks = c.settle.new.facts in
    let level = level_all rows c.args.value ranks c.settle.ensures.settled in
    shortest_of rows c.args.value ranks c.walk.new.way c.walk.result level c.walk.ensures.leads c.walk.ensures.short
