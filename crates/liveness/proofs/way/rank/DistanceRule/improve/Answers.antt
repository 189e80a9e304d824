use Rattle.std.proofs.Common.{◌≡◌, ◌<◌, length, get_or, sym, arith}
use Rattle.std.proofs.lemmas.List.{get_or_default}
use Rattle.code.specs.Codes.{rows_of}
use Rattle.code.specs.Rows.{fields}
use Rattle.liveness.specs.Ranks.{rank}
use Rattle.liveness.proofs.Ranking.{level_when, ranked_lower, sum_less}
use Rattle.liveness.proofs.Sweeps.{level_past}
use Rattle.liveness.proofs.way.rank.DistanceRule.improve.Goals as goal

pub returns-in_default-clause-settled : goal.returns-in_default-clause-settled
returns-in_default-clause-settled c _ =
    level_past (rows_of c.args.self.now.code.now) c.args.self.now.value c.args.ranks.now c.args.place (sym c.in_default.ensures.value)

pub returns-then-fresh-ranks-clause-settled : goal.returns-then-fresh-ranks-clause-settled
unfolding rank
returns-then-fresh-ranks-clause-settled c _ =
    let inside : c.args.place < length c.args.ranks.now = omega arith in
    let read : get_or c.args.ranks.now c.args.place 0 ≡ get_or c.args.ranks.now c.args.place 512 =
    get_or_default c.args.ranks.now c.args.place 0 512 inside in
    level_when (rows_of c.args.self.now.code.now) c.args.self.now.value c.args.ranks.now c.args.place (fields c.in-Some.row)
    (sym c.in-Some.ensures.value) c.rank_of-fresh.result c.rank_of-fresh.ensures (omega arith)

pub returns-clause-sound : goal.returns-clause-sound
unfolding rank
returns-clause-sound c =
    let inside : c.args.place < length c.args.ranks.now = omega arith in
    let read : get_or c.args.ranks.now c.args.place 0 ≡ get_or c.args.ranks.now c.args.place 512 =
    get_or_default c.args.ranks.now c.args.place 0 512 inside in
    ranked_lower (rows_of c.args.self.now.code.now) c.args.self.now.value c.args.ranks.now c.args.place (fields c.in-Some.row)
    (sym c.in-Some.ensures.value) c.rank_of-fresh.result c.rank_of-fresh.ensures c.requires.sound inside c.requires.within (omega arith)

pub returns-clause-less : goal.returns-clause-less
unfolding rank
returns-clause-less c _ =
    let inside : c.args.place < length c.args.ranks.now = omega arith in
    let read : get_or c.args.ranks.now c.args.place 0 ≡ get_or c.args.ranks.now c.args.place 512 =
    get_or_default c.args.ranks.now c.args.place 0 512 inside in
    sum_less c.args.ranks.now c.args.place c.rank_of-fresh.result inside (omega arith)
