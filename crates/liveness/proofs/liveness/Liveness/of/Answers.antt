use Rattle.std.proofs.Common.{sym, ◌∙◌, arith}
use Rattle.std.proofs.lemmas.Bool.{false≢true}
use Rattle.code.specs.Codes.{rows_of}
use Rattle.liveness.proofs.Finding.{in_none, before_decides, after_decides}
use Rattle.liveness.proofs.Firsts.{undefined_cases}
use Rattle.liveness.proofs.Lawful.{lawful}
use Rattle.liveness.proofs.Sweeps.{closed_all}
use Rattle.liveness.proofs.liveness.Liveness.of.Goals as goal

pub settle-requires : goal.settle-requires
settle-requires c = (omega arith, λ i v e. absurd (false≢true (sym (in_none 512 c.new-before.result c.new-before.ensures i v) ∙ e)))

pub returns : goal.returns
returns c =
    let rows = rows_of c.args.code.now in
    let before = c.settle.new.facts in
    let closed = closed_all rows before c.settle.ensures.settled in
    let exact = before_decides rows before c.settle.ensures.sound closed in
    record {
      before = exact;
      after = after_decides rows before c.settle.ensures.sound closed c.look_ahead.new.after c.look_ahead.ensures;
      undefined = undefined_cases rows before exact;
      laws = lawful rows;
    }
