use Rattle.session_laws.proofs.never_spills.Goals as goal
use Rattle.session_laws.proofs.Laws.{never_pushes, colours_all, colours_unpushed}

pub returns : goal.returns
returns c = record { pushes = never_pushes; colours = colours_all; unpushed = colours_unpushed }
