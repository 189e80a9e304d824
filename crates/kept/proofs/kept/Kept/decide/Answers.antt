use Rattle.std.proofs.Common.{◌≡◌, sym, ap, ◌∙◌, inl, inr}
use Rattle.session_laws.specs.State.{State, move_at}
use Rattle.session_laws.specs.Runs.{left_by}
use Rattle.kept.specs.Answers.{merge_says}
use Rattle.kept.specs.Kept.{state_of}
use Rattle.kept.specs.declared.moves.Merge.{Merge}
use Rattle.kept.specs.declared.moves.Merge.TheVariants.{Together}
use Rattle.kept.proofs.After.{apart_together}
use Rattle.kept.proofs.kept.Kept.decide.Goals as goal

pub returns-in-Together : goal.returns-in-Together
returns-in-Together c =
    let k = c.args.self.now in
    let m = c.args.m in
    let left : Merge → State = λ r. left_by (state_of k) (merge_says m (move_at (state_of k) m).one (move_at (state_of k) m).other r) in
    let same : left Together ≡ left c.args.decided = elim c.in-Together.is [ inl e ↦ sym (ap left e) | inr e ↦ sym (apart_together (state_of k) m) ∙ sym (ap left e) ] in
    record { base = c.close.ensures.base; state = c.close.ensures.state ∙ same }
