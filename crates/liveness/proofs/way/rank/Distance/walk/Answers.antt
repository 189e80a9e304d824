use Rattle.std.proofs.Common.{◌<◌, ◌≤◌, length, ◌∙◌, arith, length-set}
use Rattle.code.specs.Codes.{rows_of}
use Rattle.liveness.specs.Ranks.{rank}
use Rattle.liveness.proofs.Leading.{led_on, led_end, rank_inside, way_more, way_whole, behind_more}
use Rattle.liveness.proofs.way.rank.Distance.walk.Goals as goal

pub step_down-place-requires-clause-lower : goal.step_down-place-requires-clause-lower
step_down-place-requires-clause-lower c =
    let above : 0 < rank c.args.ranks.now c.loop-way.place = omega arith in
    let small : rank c.args.ranks.now c.loop-way.place < 512 = omega arith in
    let on = led_on (rows_of c.args.self.now.code.now) c.args.self.now.value c.args.ranks.now c.loop-way.place (c.requires.level c.loop-way.place) above
    (c.requires.ranked.led c.loop-way.place small) in
    on.1

pub loop-way-preserved : goal.loop-way-preserved
loop-way-preserved c =
    let above : 0 < rank c.args.ranks.now c.loop-way.place = omega arith in
    let small : rank c.args.ranks.now c.loop-way.place < 512 = omega arith in
    let on = led_on (rows_of c.args.self.now.code.now) c.args.self.now.value c.args.ranks.now c.loop-way.place (c.requires.level c.loop-way.place) above
    (c.requires.ranked.led c.loop-way.place small) in
    let room : c.loop-way.len < length c.loop-way.way = omega arith in
    let inside : c.step_down-place.result < length c.args.ranks.now =
    rank_inside c.args.ranks.now c.step_down-place.result (omega arith) in (
      omega arith,
      way_more (rows_of c.args.self.now.code.now) c.args.self.now.value c.loop-way.way c.loop-way.len c.loop-way.place room c.loop-way.invariant.1
          c.step_down-place.result on.0 c.step_down-place.ensures.next,
      behind_more c.loop-way.way c.args.way.now c.loop-way.len c.loop-way.place c.loop-way.invariant.2,
      length-set c.loop-way.way c.loop-way.len c.loop-way.place ∙ c.loop-way.invariant.3,
      omega arith,
    )

pub returns-clause-leads : goal.returns-clause-leads
returns-clause-leads c =
    let small : rank c.args.ranks.now c.loop-way.place < 512 = omega arith in
    let low : rank c.args.ranks.now c.loop-way.place ≤ 0 = omega arith in
    let room : c.loop-way.len < length c.loop-way.way = omega arith in
    let read = led_end (rows_of c.args.self.now.code.now) c.args.self.now.value c.args.ranks.now c.loop-way.place low (c.requires.ranked.led c.loop-way.place small) in
    way_whole (rows_of c.args.self.now.code.now) c.args.self.now.value c.loop-way.way c.loop-way.len c.loop-way.place room c.loop-way.invariant.1 read
