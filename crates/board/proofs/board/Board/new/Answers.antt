use Rattle.std.proofs.Common.{ℕ, sym, ap, ◌∙◌}
use Rattle.graph.specs.Shape.{Lawful}
use Rattle.graph.specs.Views.{merged_view}
use Rattle.board.specs.Sound.{snapshot}
use Rattle.board.proofs.Merging.{merged_none}
use Rattle.board.proofs.board.Board.new.Goals as goal

pub invariant_of-result : goal.invariant_of-result
invariant_of-result c =
    let g = snapshot c.args.size c.args.vertices c.new-given.result.sets in
    let lawful : Lawful g = rw c.new-given.ensures c.requires in record {
      sound = ∣ record {
        lawful = lawful;
        up_to_date = λ u v. merged_none g lawful u v ∙ sym (ap (λ (t : ℕ → ℕ). (merged_view t g).joined u v) c.new.ensures);
      } ∣₁;
    }
