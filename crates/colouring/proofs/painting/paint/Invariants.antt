use Rattle.std.proofs.Common.{◌≡◌, length, drop}
use Rattle.session_laws.specs.Colouring.{own_number, painted}
use Rattle.standing.specs.Standing.{base_of}
use Rattle.colouring.specs.Painting.{read_at, merged_under}
use Rattle.colouring.proofs.Registers.{Known}
use Rattle.colouring.proofs.painting.paint.Given as goal

abbrev pub invariant-loop-v : goal.invariant-loop-v
invariant-loop-v l =
    (length l.groups ≡ 512) × (l.last ≡ drop l.top l.removed) ×
    (painted (base_of l.standing) (merged_under l.standing) (read_at l.groups) (drop l.v-index l.last) ≡
    painted (base_of l.standing) (merged_under l.standing) (own_number (base_of l.standing)) l.last) ×
    Known l.groups
