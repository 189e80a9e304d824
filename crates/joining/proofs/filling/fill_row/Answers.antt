use Rattle.std.proofs.Common.{ℕ, List, map, sym, ap, ◌∙◌}
use Rattle.code.specs.Codes.{rows_of}
use Rattle.code.specs.Rows.{fields}
use Rattle.liveness.specs.Found.{after_of}
use Rattle.numbers.specs.Sets.{has}
use Rattle.allocation.specs.Interference.{Edge, edge, passing, row_edges, filled}
use Rattle.joining.specs.Chains.JoinedOn.{unchanged}
use Rattle.joining.proofs.Lists.{no_row, sets_none, row_joins}
use Rattle.joining.proofs.filling.fill_row.Goals as goal

pub returns-in_default : goal.returns-in_default
returns-in_default g c =
    let m = g.G.Graph.means c.args.graph.now in
    let none = no_row (rows_of c.args.code.now) c.args.code.now.numbers c.args.place (sym c.in_default.ensures.value) in
    record {
      answer = sym (ap (λ (es : List Edge). (filled m es).answer) none);
      after = sym (ap (λ (es : List Edge). (filled m es).left) none);
      left = unchanged;
    }

pub returns-in-Some-destination : goal.returns-in-Some-destination
returns-in-Some-destination g c =
    let m = g.G.Graph.means c.args.graph.now in
    let same = row_joins (rows_of c.args.code.now) c.numbers.result c.args.place (fields c.in-Some.row) c.in-Some-destination.to
    (sym c.in-Some.ensures.value) (sym c.in-Some-destination.ensures) (has c.neighbours.result) (after_of c.args.live.now c.args.place)
    c.neighbours.ensures c.requires in
    let wide = ap (λ (u : ℕ). map (edge u) (passing (has c.neighbours.result) c.numbers.result)) c.from.ensures in
    let all = wide ∙ same ∙ ap (λ (n : ℕ). row_edges (rows_of c.args.code.now) n c.args.place) c.numbers.ensures in
    record {
      answer = c.join_all.ensures.answer ∙ ap (λ (es : List Edge). (filled m es).answer) all;
      after = c.join_all.ensures.after ∙ ap (λ (es : List Edge). (filled m es).left) all;
      left = c.join_all.ensures.left;
    }

pub returns-in-None : goal.returns-in-None
returns-in-None g c =
    let m = g.G.Graph.means c.args.graph.now in
    let none = sets_none (rows_of c.args.code.now) c.args.code.now.numbers c.args.place (fields c.in-Some.row)
    (sym c.in-Some.ensures.value) (sym c.in-None.ensures) in
    record {
      answer = sym (ap (λ (es : List Edge). (filled m es).answer) none);
      after = sym (ap (λ (es : List Edge). (filled m es).left) none);
      left = unchanged;
    }
