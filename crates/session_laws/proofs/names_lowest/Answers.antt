use Rattle.session_laws.proofs.names_lowest.Goals as goal
use Rattle.session_laws.proofs.Laws.{names_lowest}

pub returns : goal.returns
returns c = names_lowest
