use Rattle.session_laws.proofs.runs_keep.Goals as goal
use Rattle.session_laws.proofs.Laws.{runs_keep}

pub returns : goal.returns
returns c = runs_keep
