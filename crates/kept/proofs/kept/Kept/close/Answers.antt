use Rattle.std.proofs.Common.{refl}
use Rattle.kept.specs.Kept.{base_of, state_of}
use Rattle.kept.proofs.After.{closed_state, closed_sound, open_low}
use Rattle.kept.proofs.kept.Kept.close.Goals as goal

pub close-requires : goal.close-requires
unfolding state_of
close-requires c = open_low (base_of c.args.self.now) (state_of c.args.self.now) c.args.m c.requires

pub invariant_of-self : goal.invariant_of-self
invariant_of-self c = record { sound = ∣ closed_sound c.args.self.now c.args.m 0 0 c.close.new.self c.close.ensures c.requires ∣₁ }

pub returns : goal.returns
unfolding base_of state_of
returns c = record { base = refl; state = closed_state c.args.self.now c.args.m 0 0 c.close.new.self c.close.ensures }
