use Rattle.session_laws.proofs.bounded_steps.Goals as goal
use Rattle.session_laws.proofs.Laws.{bounded_steps}

pub returns : goal.returns
returns c = bounded_steps
