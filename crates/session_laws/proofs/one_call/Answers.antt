use Rattle.session_laws.proofs.one_call.Goals as goal
use Rattle.session_laws.proofs.Runs.{opens_well, keeps}
use Rattle.session_laws.proofs.Exactness.{grants}

pub returns : goal.returns
returns c = record { opening = opens_well; call = keeps; granted = grants }
