-- The small graphs and the run over one of them. Assumes nothing.
use Rattle.std.proofs.Common.{◌≡◌, true, false, sym, refl, ◌∙◌, arith}
use Rattle.std.proofs.lemmas.Bool.{false≢true, ltb-true}
use Rattle.std.proofs.lemmas.Bool.Decides.{nat_tests}
use Rattle.graph.specs.Shape.{Shape, Lawful}
use Rattle.session_laws.specs.Base.{base_of, fixed}
use Rattle.session_laws.specs.State.{opened, standing_graph}
use Rattle.session_laws.specs.Outcomes.{outcome}
use Rattle.session_laws.specs.Runs.{left_by}
use Rattle.session_laws.specs.Tests.{briggs, george}
use Rattle.session_laws.specs.Colouring.{group_register}
use Rattle.session_laws.specs.Peeling.{empties}
use Rattle.session_laws.specs.Examples.{opening_of, path, triangle, PathEmpties, TriangleStays, PathWorked, TriangleWorked}
use Rattle.session_laws.specs.Laws.{Proper}
use Rattle.session_laws.proofs.Runs.{opens_well}
use Rattle.session_laws.proofs.Peeling.{empties_decides}
use Rattle.session_laws.proofs.Standing.{standing_lawful}

path_lawful : Lawful path.given
path_lawful = record {
  least = omega arith;
  most = omega arith;
  inside = λ v h. ltb-true v 35 h;
  symmetric = λ u v. grind (arith, nat_tests);
  apart = λ v. grind (arith, nat_tests);
  standing = λ u v h. grind (arith, nat_tests);
}

triangle_lawful : Lawful triangle.given
triangle_lawful = record {
  least = omega arith;
  most = omega arith;
  inside = λ v h. ltb-true v 35 h;
  symmetric = λ u v. grind (arith, nat_tests);
  apart = λ v. grind (arith, nat_tests);
  standing = λ u v h. grind (arith, nat_tests);
}

proper_of : (s : Shape) → Lawful s → Proper (opening_of s)
proper_of s l = record { lawful = l; usable = record { least = omega arith; most = omega arith } }

path_empties : empties (fixed (base_of path)) 2 (standing_graph (base_of path) opened) ≡ true
unfolding empties
path_empties = refl

triangle_stays : empties (fixed (base_of triangle)) 2 (standing_graph (base_of triangle) opened) ≡ false
unfolding empties
triangle_stays = refl

pub path_emptied : PathEmpties
path_emptied =
    let w = opens_well path (proper_of path.given path_lawful) in
    (empties_decides (fixed (base_of path)) 2 (standing_graph (base_of path) opened) (standing_lawful (base_of path) w.base opened)).0 path_empties

pub triangle_not : TriangleStays
triangle_not e =
    let w = opens_well triangle (proper_of triangle.given triangle_lawful) in
    let yes' = (empties_decides (fixed (base_of triangle)) 2 (standing_graph (base_of triangle) opened)
    (standing_lawful (base_of triangle) w.base opened)).1 e in
    false≢true (sym triangle_stays ∙ yes')

pub path_worked : PathWorked
unfolding outcome left_by briggs george group_register
path_worked = record { answered = refl; granted = refl; given = refl }

pub triangle_worked : TriangleWorked
unfolding outcome left_by briggs george group_register
triangle_worked = record { answered = refl; granted = refl; given = refl }
