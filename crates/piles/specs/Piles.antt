-- The four views, one over the other: removed over merged over clique over class. Assumes nothing.
use Rattle.graph.specs.Shape.{Shape}
use Rattle.views.specs.Tables.{class_by, clique_by, merged_by, removed_by}
use Rattle.views.specs.declared.class.ClassLook.{ClassLook}
use Rattle.views.specs.declared.clique.CliqueLook.{CliqueLook}
use Rattle.views.specs.declared.merged.MergedLook.{MergedLook}
use Rattle.views.specs.declared.removed.RemovedLook.{RemovedLook}
use Rattle.views.specs.declared.view.View.{View}
use Rattle.piles.specs.declared.looks.Looks.{Looks}

abbrev pub pile_of : Looks → Shape → Shape
pile_of looks s =
    removed_by looks.gone (merged_by looks.table.to (clique_by looks.fixed (class_by looks.classes looks.chosen s)))

abbrev pub Pile : Type 0 → Type 0
Pile G = View RemovedLook (View MergedLook (View CliqueLook (View ClassLook G)))

-- what the views of a pile go by
abbrev pub looks_of : {G : Type 0} → Pile G → Looks
looks_of p = record {
  classes = p.below.below.below.look.classes;
  chosen = p.below.below.below.look.chosen;
  fixed = p.below.below.look.fixed;
  table = p.below.look.table;
  gone = p.look.gone;
}

-- the graph under a pile
abbrev pub graph_of : {G : Type 0} → Pile G → G
graph_of p = p.below.below.below.below
