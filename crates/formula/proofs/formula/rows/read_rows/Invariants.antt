use Rattle.std.proofs.Common.{◌≡◌}
use Rattle.formula.proofs.SoFar.{SoFar}
use Rattle.formula.proofs.formula.rows.read_rows.Given as goal

abbrev pub invariant-loop-start : goal.invariant-loop-start
invariant-loop-start l =
    SoFar l.limits l.bytes l.at l.initial.code.reach l.initial.code.numbers l.initial.code.reach l.start-index l.code l.start-items l.last l.closed l.reader.at
    × (l.reader.bytes.now ≡ l.bytes)
