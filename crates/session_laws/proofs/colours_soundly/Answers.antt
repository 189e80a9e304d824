use Rattle.session_laws.proofs.colours_soundly.Goals as goal
use Rattle.session_laws.proofs.Laws.{colours_soundly}

pub returns : goal.returns
returns c = colours_soundly
