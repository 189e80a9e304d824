use Rattle.std.proofs.Common.{refl}
use Rattle.session.proofs.Keeping.{calls}
use Rattle.session.proofs.session.Session.colour.Goals as goal

pub returns-clause-calls : goal.returns-clause-calls
returns-clause-calls g c = calls _ _ _ _ refl c.colour.ensures.rules
