-- What the arrays of the views say of each number, and the views by them. Assumes nothing.
use Rattle.std.specs.Prelude.{ℕ, Bool, false, List, None, Option, slice_index_or}
use Rattle.graph.specs.Shape.{Shape}
use Rattle.graph.specs.Views.{class_view, clique_view, merged_view, removed_view}
use Rattle.classes.specs.declared.class.Class.{Class}
use Rattle.views.specs.Groups.{group_at}

-- numbers past the end are not flagged
abbrev pub flag : List Bool → ℕ → Bool
flag flags v = slice_index_or flags v false

-- numbers past the end are of neither class
abbrev pub class_at : List (Option Class) → ℕ → Option Class
class_at classes v = slice_index_or classes v None

abbrev pub class_by : List (Option Class) → Class → Shape → Shape
class_by classes chosen = class_view (class_at classes) chosen

abbrev pub clique_by : List Bool → Shape → Shape
clique_by fixed = clique_view (flag fixed)

abbrev pub merged_by : List ℕ → Shape → Shape
merged_by to = merged_view (group_at to)

abbrev pub removed_by : List Bool → Shape → Shape
removed_by gone = removed_view (flag gone)
