-- What a call makes of a session. Assumes nothing.
use Rattle.std.specs.Prelude.{◌≡◌}
use Rattle.session_laws.specs.Calls.{Call, Outcome}
use Rattle.session_laws.specs.Steps.{KeptByCall}
use Rattle.kept.specs.Kept.{base_of, state_of, ByRules}
use Rattle.session.specs.declared.session.Session.{Session}

-- A call, and what its answer says: both are by the rules, the graph stays as it was, and the laws are kept.
pub record Calls {G : Type 0} (before after : Session G) (call : Call) (said : Outcome) : Type 0 where
  pub graph : after.graph ≡ before.graph
  pub rules : ByRules before.kept after.kept call said
  pub law : KeptByCall (base_of before.kept) (state_of before.kept) call
