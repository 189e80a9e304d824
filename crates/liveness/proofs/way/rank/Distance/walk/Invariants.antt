use Rattle.std.proofs.Common.{◌≡◌, ℕ, ◌+◌, ◌<◌, ◌≤◌, List, ◌++◌, length, take, drop}
use Rattle.code.specs.Codes.{rows_of}
use Rattle.liveness.specs.Ranks.{rank}
use Rattle.liveness.specs.Ways.{Way}
use Rattle.liveness.proofs.way.rank.Distance.walk.Given as goal

abbrev pub invariant-loop-way : goal.invariant-loop-way
invariant-loop-way l =
    (rank l.ranks l.place + l.len ≤ rank l.ranks 0)
    × ((rest : List ℕ) → Way (rows_of l.self.code.now) l.self.value l.place rest → Way (rows_of l.self.code.now) l.self.value 0 (take l.len l.way ++ rest))
    × (drop l.len l.way ≡ drop l.len l.initial.way) × (length l.way ≡ 512) × (l.place < 512)

abbrev pub decreases-loop-way : goal.decreases-loop-way
decreases-loop-way l = rank l.ranks l.place
