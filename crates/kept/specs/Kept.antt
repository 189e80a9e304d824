-- What a session means, and what a call makes of it. Assumes nothing.
use Rattle.std.specs.Prelude.{◌≡◌}
use Rattle.session_laws.specs.Base.{Base}
use Rattle.session_laws.specs.State.{State}
use Rattle.session_laws.specs.Calls.{Call, Outcome}
use Rattle.session_laws.specs.Outcomes.{outcome}
use Rattle.session_laws.specs.Runs.{called}
use Rattle.standing.specs.Standing.{base_of as base_under}
use Rattle.kept.specs.Sound.{state_over}
use Rattle.kept.specs.declared.kept.Kept.{Kept}

-- what it was opened over
unfoldable pub base_of : Kept → Base
base_of k = base_under k.standing

-- what the calls have made of it
unfoldable pub state_of : Kept → State
state_of k = state_over k.standing k.removed k.moves k.temporaries

-- A call of a session, and what its answer says: both are by the rules, and what it was opened over stays.
pub record ByRules (before after : Kept) (call : Call) (said : Outcome) : Type 0 where
  pub answer : said ≡ outcome (base_of before) (state_of before) call
  pub base : base_of after ≡ base_of before
  pub state : state_of after ≡ called (base_of before) (state_of before) call
