use Rattle.std.proofs.Common.{◌≡◌}
use Rattle.board.specs.Boards.{table_of}
use Rattle.standing.specs.Standing.{board_of}
use Rattle.kept.proofs.Closing.{ClosedUpTo}
use Rattle.kept.proofs.noted.Noted.close_all.Given as goal

abbrev pub invariant-loop-m : goal.invariant-loop-m
invariant-loop-m l =
    (l.self.many ≡ l.initial.self.many) × ClosedUpTo (table_of (board_of l.standing)) l.v l.initial.self.moves l.self.moves l.m
