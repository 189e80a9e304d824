use Rattle.std.proofs.Common.{sym, ◌∙◌, subst}
use Rattle.graph.specs.Shape.{Shape, Lawful}
use Rattle.reading.proofs.Reading.{snapshot_is}
use Rattle.reading.proofs.board_of.Goals as goal

pub new-requires : goal.new-requires
new-requires g c =
    let s : Shape = (g.H.Graph.means c.args.graph.now).shape in
    subst Lawful (sym (snapshot_is s c.size.result c.vertices_of.result c.rows_of.result c.size.ensures c.vertices_of.ensures c.rows_of.ensures)) (g.H.Graph.lawful c.args.graph.now)

pub returns : goal.returns
returns g c =
    let s : Shape = (g.H.Graph.means c.args.graph.now).shape in record {
      graph = c.new.ensures.graph ∙ snapshot_is s c.size.result c.vertices_of.result c.rows_of.result c.size.ensures c.vertices_of.ensures c.rows_of.ensures;
      table = c.new.ensures.table;
    }
