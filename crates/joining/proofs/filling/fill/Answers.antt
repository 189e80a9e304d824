use Rattle.std.proofs.Common.{◌≡◌, ℕ, length, Err, sym, refl, ap, ◌∙◌, subst, arith}
use Rattle.std.proofs.lemmas.Bool.Decides.{same_from_decides}
use Rattle.std.proofs.lemmas.Result.{err_from_is_err_and}
use Rattle.code.specs.Codes.{rows_of}
use Rattle.allocation.specs.Interference.{edges_below, row_edges, edges_of, Filled, live_after}
use Rattle.allocation.proofs.Living.{after_decides}
use Rattle.liveness.specs.Found.{after_of}
use Rattle.joining.specs.Chains.JoinedOn.{unchanged}
use Rattle.joining.proofs.Lists.{SoFar, goes_on, stops, edges_grow, joined_then}
use Rattle.joining.proofs.filling.fill.Goals as goal

pub loop-place-init : goal.loop-place-init
loop-place-init g c = (record { fine = refl; left = refl }, unchanged)

pub fill_row-requires : goal.fill_row-requires
fill_row-requires g c = λ v.
    let rows = rows_of c.args.code.now in
    same_from_decides (after_of c.of-live.result c.loop-place.place v) (live_after rows c.loop-place.place v)
    (c.of-live.ensures.after c.loop-place.place v) (after_decides rows c.loop-place.place v)

pub returns-in_err-fill_row : goal.returns-in_err-fill_row
unfolding edges_of
returns-in_err-fill_row g c =
    let rows = rows_of c.args.code.now in
    let n = c.args.code.now.numbers in
    let back = err_from_is_err_and c.from_residual.result c.from_residual.ensures.1 in
    let same : c.from_residual.result ≡ c.fill_row.result = back.1 ∙ (ap Err back.2 ∙ sym c.in_err-fill_row.was) in
    let whole = stops (edges_below rows n) (row_edges rows n) (edges_grow rows n) (g.G.Graph.means c.args.graph.now)
    c.loop-place.place (length rows) (g.G.Graph.means c.loop-place.graph) c.in_err-fill_row.field-0.0 (omega arith) c.loop-place.invariant.0
    (sym c.fill_row.ensures.answer ∙ c.in_err-fill_row.was) in
    record {
      answer = same ∙ (c.fill_row.ensures.answer ∙ sym (ap (λ (f : Filled). f.answer) whole));
      after = c.fill_row.ensures.after ∙ sym (ap (λ (f : Filled). f.left) whole);
      left = joined_then g.G.Graph.leaves c.loop-place.invariant.1 c.fill_row.ensures.left;
    }

pub loop-place-preserved : goal.loop-place-preserved
loop-place-preserved g c =
    let rows = rows_of c.args.code.now in
    let n = c.args.code.now.numbers in (
      goes_on (edges_below rows n) (row_edges rows n) (edges_grow rows n) (g.G.Graph.means c.args.graph.now)
          c.loop-place.place (g.G.Graph.means c.loop-place.graph) (g.G.Graph.means c.fill_row.new.graph) c.loop-place.invariant.0
          (sym c.fill_row.ensures.answer ∙ c.in_ok-fill_row.was) c.fill_row.ensures.after,
      joined_then g.G.Graph.leaves c.loop-place.invariant.1 c.fill_row.ensures.left,
    )

pub returns : goal.returns
unfolding edges_of
returns g c =
    let rows = rows_of c.args.code.now in
    let n = c.args.code.now.numbers in
    let m = g.G.Graph.means c.args.graph.now in
    let end : c.loop-place.place ≡ length rows = omega arith in
    let all : SoFar m (g.G.Graph.means c.loop-place.graph) (edges_below rows n (length rows)) =
    subst (λ (k : ℕ). SoFar m (g.G.Graph.means c.loop-place.graph) (edges_below rows n k)) end c.loop-place.invariant.0 in
    record { answer = sym all.fine; after = all.left; left = c.loop-place.invariant.1 }
