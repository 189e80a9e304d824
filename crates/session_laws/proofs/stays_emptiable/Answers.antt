use Rattle.session_laws.proofs.stays_emptiable.Goals as goal
use Rattle.session_laws.proofs.Laws.{stays_emptiable}

pub returns : goal.returns
returns c = stays_emptiable
