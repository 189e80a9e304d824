use Rattle.session_laws.proofs.peeling_decides.Goals as goal
use Rattle.session_laws.proofs.Merged.{emptying_decided}

pub returns : goal.returns
returns c = emptying_decided
