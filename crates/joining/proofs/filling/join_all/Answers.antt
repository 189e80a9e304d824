use Rattle.std.proofs.Common.{◌≡◌, ℕ, ◌+◌, ◌≤◌, ◌<◌, List, map, Err, sym, refl, ap, ◌∙◌, subst, arith}
use Rattle.std.proofs.lemmas.Result.{err_from_is_err_and}
use Rattle.numbers.specs.Iterating.{source, place}
use Rattle.numbers.specs.Sets.{has}
use Rattle.numbers.specs.declared.number_set.NumberSet.{NumberSet}
use Rattle.allocation.specs.Interference.{edge, passing, Filled, filled}
use Rattle.joining.specs.Chains.JoinedOn.{unchanged, one_more}
use Rattle.joining.proofs.Lists.{SoFar, one_answer, one_left, passing_same}
use Rattle.joining.proofs.Members.{member_joined, member_refused, no_more_to, no_more_below}
use Rattle.graph.specs.Joining.{join_answer, join_meaning}
use Rattle.joining.proofs.filling.join_all.Goals as goal

pub loop-v-init : goal.loop-v-init
loop-v-init g c =
    let same = c.into_iter-v-iterator.ensures.into_iter_gives in
    let set = ap source same ∙ c.iter-v-items.ensures.set in
    let start : place c.into_iter-v-iterator.result ≡ 0 = ap place same ∙ c.iter-v-items.ensures.start in (
      λ v. ap (λ (s : NumberSet). has s v) set,
      omega arith,
      rw start (record { fine = refl; left = refl }),
      unchanged,
    )

pub loop-v-preserved : goal.loop-v-preserved
loop-v-preserved g c =
    let steps = c.in-Some.ensures.steps in
    let next : place c.next.new.self ≡ c.in-Some.v + 1 = steps.2.0 in (
      λ v. ap (λ (s : NumberSet). has s v) steps.0 ∙ c.loop-v.invariant.0 v,
      omega arith,
      member_joined (g.G.Graph.means c.args.graph.now) (g.G.Graph.means c.loop-v.graph) c.args.u c.loop-v.v-iterator c.next.new.self c.in-Some.v steps
          c.loop-v.invariant.2 (g.G.Graph.means c.join.new.self) (sym c.in_ok-join.was ∙ c.join.ensures.answer) c.join.ensures.after,
      one_more c.args.u c.in-Some.v c.loop-v.invariant.3 c.join.ensures.left,
    )

pub returns-in_err-join : goal.returns-in_err-join
returns-in_err-join g c =
    let m = g.G.Graph.means c.args.graph.now in
    let now = g.G.Graph.means c.loop-v.graph in
    let u = c.args.u in
    let v = c.in-Some.v in
    let back = err_from_is_err_and c.from_residual.result c.from_residual.ensures.1 in
    let same : c.from_residual.result ≡ c.join.result = back.1 ∙ (ap Err back.2 ∙ sym c.in_err-join.was) in
    let members = ap (λ vs. filled m (map (edge u) vs)) (passing_same (has (source c.loop-v.v-iterator)) (has c.args.others.now) c.args.n (λ k l. c.loop-v.invariant.0 k)) in
    let whole = sym members ∙ member_refused m now u c.loop-v.v-iterator c.next.new.self v c.in-Some.ensures.steps c.loop-v.invariant.2
    c.in_err-join.field-0.0 c.args.n (omega arith) (sym c.in_err-join.was ∙ c.join.ensures.answer) in
    record {
      answer = same ∙ (c.join.ensures.answer ∙ (one_answer (join_answer now u v) (join_meaning now u v) ∙ sym (ap (λ (f : Filled). f.answer) whole)));
      after = c.join.ensures.after ∙ (one_left (join_answer now u v) (join_meaning now u v) ∙ sym (ap (λ (f : Filled). f.left) whole));
      left = one_more u v c.loop-v.invariant.3 c.join.ensures.left;
    }

pub returns-then-v-n : goal.returns-then-v-n
returns-then-v-n g c =
    let m = g.G.Graph.means c.args.graph.now in
    let p = has (source c.loop-v.v-iterator) in
    let ends = no_more_below c.loop-v.v-iterator c.next.new.self c.args.n c.in-Some.v c.loop-v.invariant.1 (omega arith) c.in-Some.ensures.steps
    ∙ passing_same p (has c.args.others.now) c.args.n (λ k l. c.loop-v.invariant.0 k) in
    let all : SoFar m (g.G.Graph.means c.loop-v.graph) (map (edge c.args.u) (passing (has c.args.others.now) c.args.n)) =
    subst (λ (vs : List ℕ). SoFar m (g.G.Graph.means c.loop-v.graph) (map (edge c.args.u) vs)) ends c.loop-v.invariant.2 in
    record { answer = sym all.fine; after = all.left; left = c.loop-v.invariant.3 }

pub returns : goal.returns
returns g c =
    let m = g.G.Graph.means c.args.graph.now in
    let p = has (source c.loop-v.v-iterator) in
    let ends = no_more_to c.loop-v.v-iterator c.next.new.self c.args.n c.loop-v.invariant.1 c.in-None.ensures.steps
    ∙ passing_same p (has c.args.others.now) c.args.n (λ k l. c.loop-v.invariant.0 k) in
    let all : SoFar m (g.G.Graph.means c.loop-v.graph) (map (edge c.args.u) (passing (has c.args.others.now) c.args.n)) =
    subst (λ (vs : List ℕ). SoFar m (g.G.Graph.means c.loop-v.graph) (map (edge c.args.u) vs)) ends c.loop-v.invariant.2 in
    record { answer = sym all.fine; after = all.left; left = c.loop-v.invariant.3 }
