use Rattle.session_laws.proofs.tests_keep.Goals as goal
use Rattle.session_laws.proofs.Merged.{briggs_keeps, george_keeps, george_keeps_turned}

pub returns : goal.returns
returns c = record { briggs = briggs_keeps; george = george_keeps; turned = george_keeps_turned }
