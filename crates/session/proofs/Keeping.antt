-- What each call of a session keeps. Assumes nothing.
use Rattle.std.proofs.Common.{◌≡◌}
use Rattle.session_laws.specs.Calls.{Call, Outcome}
use Rattle.session_laws.proofs.Runs.{keeps}
use Rattle.kept.specs.Kept.{base_of, state_of, ByRules}
use Rattle.kept.proofs.Facts.{base_sound, state_sound}
use Rattle.session.specs.Calls.{Calls}
use Rattle.session.specs.declared.session.Session.{Session}

pub calls : {G : Type 0} (before after : Session G) (c : Call) (said : Outcome) → after.graph ≡ before.graph → ByRules before.kept after.kept c said →
    Calls before after c said
calls before after c said graph rules = record {
  graph = graph;
  rules = rules;
  law = keeps (base_of before.kept) (base_sound before.kept) (state_of before.kept) (state_sound before.kept) c;
}
