use Rattle.std.proofs.Common.{refl}
use Rattle.session.proofs.Keeping.{calls}
use Rattle.session.proofs.session.Session.note.Goals as goal

pub returns : goal.returns
returns g c = calls _ _ _ _ refl c.note.ensures
