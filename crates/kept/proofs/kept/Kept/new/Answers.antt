use Rattle.std.proofs.Common.{refl}
use Rattle.kept.specs.Kept.{base_of, state_of}
use Rattle.kept.proofs.Opening.{opened_state, opened_kept}
use Rattle.kept.proofs.kept.Kept.new.Goals as goal

pub invariant_of-result : goal.invariant_of-result
invariant_of-result c = record { sound = ∣ opened_kept c.args.standing _ _ _ c.requires c.new.ensures c.new-2.ensures c.new-3.ensures ∣₁ }

pub returns : goal.returns
unfolding base_of state_of
returns c = record { base = refl; state = opened_state c.args.standing _ _ _ c.requires c.new.ensures c.new-2.ensures c.new-3.ensures }
