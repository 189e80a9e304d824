use Rattle.std.proofs.Common.{◌∙◌, rules, tests}
use Rattle.std.proofs.lemmas.Iterator.{YieldsList-from_slice}
use Rattle.std.proofs.lemmas.Iterator.Search.{any_from_yields_List}
use Rattle.session_laws.specs.State.{waits}
use Rattle.kept.specs.Kept.{state_of}
use Rattle.kept.specs.Moves.{move_of}
use Rattle.kept.specs.declared.moves.Move.{Move}
use Rattle.kept.proofs.Facts.{pending_is}
use Rattle.kept.proofs.kept.Kept.has_pending.Goals as goal

pub returns : goal.returns
unfolding state_of
returns c =
    let k = c.args.self.now in
    let test = λ (m : Move). waits (state_of k).table c.args.v (move_of m) in
    any_from_yields_List test _ _ _ c.any.ensures.ran (YieldsList-from_slice c.as_slice.result.now (search rules)) (λ x b q h. search (rules, tests)) ∙
    pending_is k c.args.v c.as_slice.result.now c.as_slice.ensures
