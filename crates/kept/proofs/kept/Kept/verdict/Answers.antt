use Rattle.std.proofs.Common.{◌<◌, ◌≤◌, sym, ◌∙◌, arith}
use Rattle.session_laws.specs.Calls.{refused}
use Rattle.standing.specs.Standing.{graph_of}
use Rattle.std.proofs.lemmas.Bool.{cond-true, cond-false}
use Rattle.kept.proofs.Verdicts.{vertex_none, vertex_gone, vertex_there}
use Rattle.kept.proofs.kept.Kept.verdict.Goals as goal

pub returns-then-v-size : goal.returns-then-v-size
returns-then-v-size c o =
    let k = c.args.self.now in
    let high : (graph_of k.standing).size ≤ c.args.v = omega arith in
    sym (vertex_none k c.args.v _ high)

pub returns-then-not-stands : goal.returns-then-not-stands
returns-then-not-stands c o =
    let k = c.args.self.now in
    let low : c.args.v < (graph_of k.standing).size = omega arith in
    sym (vertex_gone k c.args.v _ low (sym c.if-not-stands.ensures))

pub returns-then-granted : goal.returns-then-granted
returns-then-granted c o =
    let k = c.args.self.now in
    let low : c.args.v < (graph_of k.standing).size = omega arith in
    sym (vertex_there k c.args.v _ low (sym c.if-not-stands.ensures) ∙ cond-true c.args.granted o (refused 17) c.if-granted.true)

pub returns-else-granted : goal.returns-else-granted
returns-else-granted c o =
    let k = c.args.self.now in
    let low : c.args.v < (graph_of k.standing).size = omega arith in
    sym (vertex_there k c.args.v _ low (sym c.if-not-stands.ensures) ∙ cond-false c.args.granted o (refused 17) c.if-granted.false)
