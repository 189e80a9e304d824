use Rattle.std.proofs.Common.{◌≡◌, ℕ, Bool, not, sym, ap, ◌∙◌, subst}
use mathlib.Core.Path.{fun_ext}
use Rattle.graph.specs.Counting.{any}
use Rattle.numbers.specs.Sets.{has}
use Rattle.session_laws.specs.Peeling.{left_of, empties}
use Rattle.session_laws.proofs.Peeling.{empties_decides}
use Rattle.standing.specs.Standing.{graph_of, fixed_in, registers_of, loose_in}
use Rattle.standing.proofs.Emptying.{Peeled, peel_start, there, one_fewer, peel_one, peel_end, not_some, none_there}
use Rattle.standing.proofs.Shapes.{graph_lawful, loose_inside}
use Rattle.standing.proofs.standing.Standing.can_be_emptied.Goals as goal

pub loop-v-init : goal.loop-v-init
loop-v-init c =
    let s = c.args.self.now in
    let start = Peeled (fixed_in s) (registers_of s) (graph_of s) (loose_in s) in
    subst start (sym (fun_ext c.loose-rest.ensures)) (peel_start (fixed_in s) (registers_of s) (graph_of s) (loose_in s) (loose_inside s))

pub loop-v-smaller : goal.loop-v-smaller
loop-v-smaller c =
    let s = c.args.self.now in
    let light = sym c.in-Some.ensures in
    let low = c.loop-v.invariant.0 c.in-Some.v (there (fixed_in s) (registers_of s) (graph_of s) (loose_in s) _ _ _ light c.remove.ensures) in
    one_fewer (fixed_in s) (registers_of s) (graph_of s) (loose_in s) _ _ _ light c.remove.ensures low

pub loop-v-preserved : goal.loop-v-preserved
loop-v-preserved c =
    let s = c.args.self.now in
    peel_one (fixed_in s) (registers_of s) (graph_of s) (loose_in s) (has c.loop-v.rest) (has c.remove.new.self) c.in-Some.v
    (sym c.in-Some.ensures) c.remove.ensures c.loop-v.invariant

pub returns : goal.returns
unfolding empties
returns c =
    let s = c.args.self.now in
    let g = graph_of s in
    let rest = has c.loop-v.rest in
    let none = sym c.light_in.ensures ∙ not_some c.light_in.result c.in_default.not-Some in
    let left = peel_end (fixed_in s) (registers_of s) g (loose_in s) rest none c.loop-v.invariant in
    let is : c.is_empty.result ≡ not (any (left_of (fixed_in s) (registers_of s) g g.size (loose_in s)) g.size) =
    none_there rest g.size c.is_empty.result c.is_empty.ensures.none c.is_empty.ensures.some c.loop-v.invariant.0
    ∙ ap (λ (p : ℕ → Bool). not (any p g.size)) left in
    record {
      by_peeling = is;
      exactly = let d = empties_decides (fixed_in s) (registers_of s) g (graph_lawful s) in
          (λ e. d.0 (sym is ∙ e), λ e. is ∙ d.1 e);
    }
