use Rattle.std.proofs.Common.{◌≡◌, ◌<◌, true, sym, ap, ◌∙◌, arith}
use Rattle.std.proofs.lemmas.Bool.{false≢true, eqb-true, eq-eqb, or_left}
use Rattle.code.specs.Codes.{rows_of}
use Rattle.code.specs.Rows.{fields}
use Rattle.liveness.specs.Flow.{names}
use Rattle.liveness.specs.Ranks.{rank}
use Rattle.liveness.proofs.Leading.{by_next}
use Rattle.liveness.proofs.Places.{follows_at, follows_past}
use Rattle.liveness.proofs.way.walk.step_down.Goals as goal

pub returns-in_default : goal.returns-in_default
returns-in_default c =
    absurd (false≢true (sym (follows_past (rows_of c.args.code.now) c.args.place (sym c.in_default.ensures.value) c.requires.lower.0) ∙ c.requires.lower.1))

pub returns-in_default-target : goal.returns-in_default-target
returns-in_default-target c =
    let j = c.requires.lower.0 in
    let found = by_next (rows_of c.args.code.now) c.args.place (fields c.in-Some.row) (sym c.in-Some.ensures.value)
    (rank c.args.ranks.now) j c.requires.lower.1 c.requires.lower.2
    (λ e. false≢true (ap (λ o. names o j) c.in_default-target.ensures ∙ e)) in
    record { next = found.0; lower = found.1 }

pub returns-then-rank_at-clause-next : goal.returns-then-rank_at-clause-next
returns-then-rank_at-clause-next c =
    let to = c.from-to.result in
    let same : to ≡ c.in-Some-target.target = omega arith in
    let named : names (fields c.in-Some.row).target to ≡ true =
    ap (λ o. names o to) (sym c.in-Some-target.ensures) ∙ eq-eqb to c.in-Some-target.target same in
    follows_at (rows_of c.args.code.now) c.args.place (fields c.in-Some.row) (sym c.in-Some.ensures.value) to ∙ or_left _ _ named

pub returns : goal.returns
returns c =
    let t = c.in-Some-target.target in
    let to : c.from-to.result ≡ t = omega arith in
    let j = c.requires.lower.0 in
    let low : rank c.args.ranks.now j < rank c.args.ranks.now c.args.place = c.requires.lower.2 in
    let found = by_next (rows_of c.args.code.now) c.args.place (fields c.in-Some.row) (sym c.in-Some.ensures.value)
    (rank c.args.ranks.now) j c.requires.lower.1 c.requires.lower.2
    (λ e.
    let same : j ≡ t = eqb-true j t (ap (λ o. names o j) c.in-Some-target.ensures ∙ e) in
    let at : rank c.args.ranks.now j ≡ rank c.args.ranks.now c.from-to.result = ap (rank c.args.ranks.now) (same ∙ sym to) in
    omega arith) in
    record { next = found.0; lower = found.1 }
