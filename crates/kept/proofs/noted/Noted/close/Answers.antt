use Rattle.std.proofs.Common.{false, refl}
use Rattle.kept.proofs.Closing.{one_closed}
use Rattle.kept.proofs.noted.Noted.close.Goals as goal

pub returns : goal.returns
returns c = one_closed c.args.self.now _ c.args.m _ (record { one = 0; other = 0; pending = false }) c.requires refl refl refl
