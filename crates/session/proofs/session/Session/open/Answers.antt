use Rattle.std.proofs.Common.{sym, ap, ◌∙◌, subst}
use Rattle.session_laws.specs.Base.{SoundBase}
use Rattle.views.specs.declared.class.ClassLook.{ClassLook}
use Rattle.views.specs.declared.view.View.{View}
use Rattle.session.proofs.Tables.{view_shape, opened_base, opened_sound}
use Rattle.session.proofs.session.Session.open.Goals as goal

pub start-requires : goal.start-requires
start-requires g c =
    let m = λ (x : g.row.G.Denot). (g.G.Graph.means x).shape in
    let graph = c.board_of-board.ensures.graph ∙ view_shape m c.new-clique_view.result c.new-class_view.result c.args.graph c.classes_under.result
    c.class.result c.args.bank.class c.flags.result c.new-clique_view.ensures.below c.new-clique_view.ensures.fixed c.new-class_view.ensures.below
    c.new-class_view.ensures.classes c.new-class_view.ensures.chosen c.class.ensures in
    let base = opened_base (g.G.Graph.means c.args.graph).shape c.args.bank c.args.classes.now c.classes_under.result c.flags.result c.board_of-board.result
    graph c.flags.ensures c.classes_under.ensures in
    (subst SoundBase (sym base) (opened_sound (g.G.Graph.means c.args.graph).shape (g.G.Graph.lawful c.args.graph) c.args.bank c.args.classes.now), c.board_of-board.ensures.table)

pub returns : goal.returns
returns g c =
    let m = λ (x : g.row.G.Denot). (g.G.Graph.means x).shape in
    let graph = c.board_of-board.ensures.graph ∙ view_shape m c.new-clique_view.result c.new-class_view.result c.args.graph c.classes_under.result
    c.class.result c.args.bank.class c.flags.result c.new-clique_view.ensures.below c.new-clique_view.ensures.fixed c.new-class_view.ensures.below
    c.new-class_view.ensures.classes c.new-class_view.ensures.chosen c.class.ensures in
    let base = opened_base (g.G.Graph.means c.args.graph).shape c.args.bank c.args.classes.now c.classes_under.result c.flags.result c.board_of-board.result
    graph c.flags.ensures c.classes_under.ensures in
    record {
      base = c.start.ensures.base ∙ base;
      state = c.start.ensures.state;
      graph = c.into_below-2.ensures ∙ (ap (λ (x : View ClassLook g.row.G.Denot). x.below) (c.into_below.ensures ∙ c.new-clique_view.ensures.below) ∙ c.new-class_view.ensures.below);
    }
