use Rattle.std.proofs.Common.{refl, ◌∙◌}
use Rattle.board.specs.Boards.{opened_graph, table_of}
use Rattle.board.proofs.Uniting.{high_inside, table_united, united_sound}
use Rattle.board.proofs.board.Board.unite.Goals as goal

pub merge-requires : goal.merge-requires
merge-requires c = (c.requires.lower, high_inside c.args.self.now c.args.low c.args.high c.requires)

pub invariant_of-self : goal.invariant_of-self
unfolding opened_graph table_of
invariant_of-self c =
    let b = c.args.self.now in
    let table = c.merge-self.ensures ∙ table_united b c.args.low c.args.high c.requires in
    record { sound = ∣ united_sound b c.args.low c.args.high c.requires c.merge.new.self.sets c.merge-self.result.to c.merge.ensures table ∣₁ }

pub returns : goal.returns
unfolding opened_graph table_of
returns c = record { graph = refl; table = c.merge-self.ensures ∙ table_united c.args.self.now c.args.low c.args.high c.requires }
