use Rattle.session_laws.proofs.witnesses.Goals as goal
use Rattle.session_laws.proofs.Worked.{path_emptied, triangle_not, path_worked, triangle_worked}

pub returns : goal.returns
returns c = record { path = path_emptied; triangle = triangle_not; merging = path_worked; pushing = triangle_worked }
