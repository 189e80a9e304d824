use Rattle.std.proofs.Common.{get_or, arith}
use Rattle.code.specs.Codes.{rows_of}
use Rattle.liveness.proofs.Sweeping.{set_read, closed_still, sound_taken, lacking_taken}
use Rattle.liveness.proofs.renew.CodeRule.improve.Goals as goal

pub returns-then-not-absorb-clause-settled : goal.returns-then-not-absorb-clause-settled
returns-then-not-absorb-clause-settled c _ =
    let family = c.args.before.now in
    let old = get_or family c.args.place c.index-before-place.result in
    closed_still (rows_of c.args.self.now) family c.args.place old c.set_before-fresh.result c.absorb.new.self
    (set_read family c.args.place c.index-before-place.result (omega arith)) c.set_before-fresh.ensures c.absorb.ensures.after
    (c.absorb.ensures.same c.if-not-absorb.true)

pub returns-clause-sound : goal.returns-clause-sound
returns-clause-sound c =
    let family = c.args.before.now in
    let old = get_or family c.args.place c.index-before-place.result in
    sound_taken (rows_of c.args.self.now) family c.args.place old c.set_before-fresh.result c.absorb.new.self
    (set_read family c.args.place c.index-before-place.result (omega arith)) c.set_before-fresh.ensures c.absorb.ensures.after
    (omega arith) c.requires.sound

pub returns-clause-less : goal.returns-clause-less
returns-clause-less c _ =
    let family = c.args.before.now in
    let old = get_or family c.args.place c.index-before-place.result in
    lacking_taken (rows_of c.args.self.now) family c.args.place old c.set_before-fresh.result c.absorb.new.self
    (set_read family c.args.place c.index-before-place.result (omega arith)) c.set_before-fresh.ensures c.absorb.ensures.after
    (omega arith) (c.absorb.ensures.grew c.if-not-absorb.false)
