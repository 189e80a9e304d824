use Rattle.std.proofs.Common.{sym, ◌∙◌}
use Rattle.std.proofs.lemmas.Bool.{and_parts}
use Rattle.standing.specs.Standing.{base_of, board_of, is_left}
use Rattle.standing.proofs.Told.{told_standing}
use Rattle.standing.proofs.Uniting.{base_same, base_kept, still_inside}
use Rattle.standing.proofs.standing.Standing.unite.Goals as goal

pub invariant_of-self : goal.invariant_of-self
unfolding board_of
invariant_of-self c =
    let was = told_standing _ _ _ _ c.args.self.now.sound in
    let old = c.args.self.now.board in record {
      sound = ∣ record {
        base = base_kept old c.unite.new.self _ _ c.unite.ensures.graph was.base;
        inside = λ v h.
            let p = and_parts _ _ (sym (c.remove.ensures v) ∙ h) in
            still_inside old c.unite.new.self c.args.low c.args.high v c.requires c.unite.ensures.graph c.unite.ensures.table (was.inside v p.0) p.1;
      } ∣₁;
    }

pub returns : goal.returns
unfolding base_of board_of is_left
returns c = record {
  base = base_same c.args.self.now.board c.unite.new.self _ _ c.unite.ensures.graph;
  table = c.unite.ensures.table;
  left = c.remove.ensures;
}
