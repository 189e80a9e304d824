use Rattle.allocation.proofs.Computed as computed
use Rattle.allocation.proofs.worked.Goals as goal

pub returns : goal.returns
returns c = computed.worked
