use Rattle.std.proofs.Common.{◌≡◌, ℕ}
use Rattle.numbers.specs.Iterating.{source, given}
use Rattle.numbers.specs.Sets.{has}
use Rattle.colouring.specs.Painting.{merged_under, read_at}
use Rattle.colouring.proofs.Registers.{Used}
use Rattle.colouring.proofs.painting.used_near.Given as goal

abbrev pub invariant-loop-w : goal.invariant-loop-w
invariant-loop-w l =
    ((k : ℕ) → has (source l.w-iterator) k ≡ (merged_under l.standing).joined l.v k)
    × Used (given l.w-iterator) (read_at l.groups) (merged_under l.standing).size (has l.used)
