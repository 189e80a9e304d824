use Rattle.std.proofs.Common.{◌≡◌}
use Rattle.numbers.specs.Iterating.{source, given}
use Rattle.board.specs.Rows.{row_has}
use Rattle.board.proofs.Spreading.{Spread}
use Rattle.board.proofs.rows.Rows.spread.Given as goal

abbrev pub invariant-loop-w : goal.invariant-loop-w
invariant-loop-w l = (source l.w-iterator ≡ l.gone) × Spread (given l.w-iterator) l.low l.high (row_has l.initial.self.sets) l.self.sets
