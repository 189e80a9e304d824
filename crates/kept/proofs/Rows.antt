-- A row of the array of moves that was never written. Assumes nothing.
use Rattle.std.proofs.Common.{false}
use Rattle.kept.specs.declared.moves.Move.{Move}

abbrev pub no_row : Move
no_row = record { one = 0; other = 0; pending = false }
