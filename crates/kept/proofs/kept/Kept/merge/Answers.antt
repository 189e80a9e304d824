use Rattle.std.proofs.Common.{length, sym, ◌∙◌, arith}
use Rattle.std.proofs.lemmas.Result.{err_from_is_err_and}
use Rattle.session_laws.specs.Calls.{merge}
use Rattle.session_laws.specs.Outcomes.{outcome_merge}
use Rattle.kept.specs.Kept.{base_of, state_of}
use Rattle.kept.proofs.After.{granted_on}
use Rattle.kept.proofs.Deciding.{merge_short}
use Rattle.kept.proofs.Verdicts.{granted_rules, refused_rules}
use Rattle.kept.proofs.kept.Kept.merge.Goals as goal

pub returns-then-marks-lt512-clause-rules : goal.returns-then-marks-lt512-clause-rules
returns-then-marks-lt512-clause-rules c =
    let k = c.args.self.now in
    let n = length c.args.marks.now in
    refused_rules k (merge c.args.m n) 2 (sym (outcome_merge (base_of k) (state_of k) c.args.m n ∙ merge_short k c.args.m n c.if-marks-lt512.true))

pub returns-in_err-decided-clause-rules : goal.returns-in_err-decided-clause-rules
returns-in_err-decided-clause-rules c =
    let k = c.args.self.now in
    let n = length c.args.marks.now in
    let p = err_from_is_err_and c.from_residual.result c.from_residual.ensures.1 in
    rw (p.1, p.2) (refused_rules k (merge c.args.m n) _
    (c.in_err-decided.ensures n (let long = c.if-marks-lt512.false in omega arith) ∙ sym (outcome_merge (base_of k) (state_of k) c.args.m n)))

pub decide-requires : goal.decide-requires
decide-requires c =
    let k = c.args.self.now in
    let n = length c.args.marks.now in
    granted_on k (merge c.args.m n) _
    (c.in_ok-decided.ensures n (let long = c.if-marks-lt512.false in omega arith) ∙ sym (outcome_merge (base_of k) (state_of k) c.args.m n))

pub returns-clause-rules : goal.returns-clause-rules
returns-clause-rules c =
    let k = c.args.self.now in
    let n = length c.args.marks.now in
    granted_rules k c.decide.new.self (merge c.args.m n) _
    (c.in_ok-decided.ensures n (let long = c.if-marks-lt512.false in omega arith) ∙ sym (outcome_merge (base_of k) (state_of k) c.args.m n))
    c.decide.ensures.base c.decide.ensures.state
