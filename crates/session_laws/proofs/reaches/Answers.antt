use Rattle.session_laws.proofs.reaches.Goals as goal
use Rattle.session_laws.proofs.Reaching.{reaches}

pub returns : goal.returns
returns c = reaches
