use Rattle.std.proofs.Common.{◌≡◌, ℕ, ◌<◌, get_or}
use Rattle.colouring.specs.Painting.{read_at, member_register}
use Rattle.colouring.proofs.filling.fill.Given as goal

abbrev pub invariant-loop-v : goal.invariant-loop-v
invariant-loop-v l = (u : ℕ) → u < l.v → get_or l.register-items u 0 ≡ member_register l.standing (read_at l.groups) u
