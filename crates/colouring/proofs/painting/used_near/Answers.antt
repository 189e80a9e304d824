use Rattle.std.proofs.Common.{◌≡◌, ℕ, Bool, ◌&&◌, eqb, sym, ap, ◌∙◌}
use mathlib.Core.Path.{fun_ext}
use Rattle.board.specs.Boards.{merged_graph}
use Rattle.board.specs.declared.board.Board.{Board}
use Rattle.board.proofs.Boards.{merged_lawful}
use Rattle.graph.specs.Counting.{any}
use Rattle.numbers.specs.Iterating.{source, place, given}
use Rattle.numbers.specs.Sets.{has}
use Rattle.numbers.specs.declared.number_set.NumberSet.{NumberSet}
use Rattle.numbers.proofs.Going.{given_none, given_one, given_all}
use Rattle.session_laws.proofs.Cores.{far_inside}
use Rattle.session_laws.specs.Colouring.{or_none}
use Rattle.standing.specs.Standing.{board_of}
use Rattle.colouring.specs.Painting.{merged_under, read_at}
use Rattle.colouring.proofs.Registers.{used_none, used_one, takes_none, takes_one, not_some}
use Rattle.colouring.proofs.painting.used_near.Goals as goal

pub loop-w-init : goal.loop-w-init
loop-w-init c =
    let same = c.into_iter-w-iterator.ensures.into_iter_gives in
    let set = ap source same ∙ c.iter-w-items.ensures.set in (
      λ k. ap (λ (s : NumberSet). has s k) set ∙ (c.row-row.ensures k ∙ ap (λ (b : Board). (merged_graph b).joined c.args.v k) c.board.ensures),
      used_none _ _ _ _ (λ k. given_none c.into_iter-w-iterator.result k (ap place same ∙ c.iter-w-items.ensures.start)) c.new-used.ensures,
    )

pub loop-w-preserved : goal.loop-w-preserved
loop-w-preserved c =
    let s = c.args.standing.now in
    let steps = c.in-Some.ensures.steps in
    let w = c.in-Some.w in
    let joined = sym (c.loop-w.invariant.0 w) ∙ steps.2.3 in (
      λ k. ap (λ (s : NumberSet). has s k) steps.0 ∙ c.loop-w.invariant.0 k,
      used_one (given c.loop-w.w-iterator) (given c.next.new.self) c.args.groups.now (merged_under s).size w (has c.loop-w.used) (has c.loop-w.used)
          (far_inside (merged_under s) (merged_lawful (board_of s)) c.args.v w joined)
          (λ k. given_one c.loop-w.w-iterator c.next.new.self w k steps)
          (λ r small. takes_none (has c.loop-w.used r) (read_at c.args.groups.now w) r (not_some _ c.in_default.not-Some) small)
          c.loop-w.invariant.1,
    )

pub loop-w-preserved-in-Some-groups : goal.loop-w-preserved-in-Some-groups
loop-w-preserved-in-Some-groups c =
    let s = c.args.standing.now in
    let steps = c.in-Some.ensures.steps in
    let w = c.in-Some.w in
    let joined = sym (c.loop-w.invariant.0 w) ∙ steps.2.3 in (
      λ k. ap (λ (s : NumberSet). has s k) steps.0 ∙ c.loop-w.invariant.0 k,
      used_one (given c.loop-w.w-iterator) (given c.next.new.self) c.args.groups.now (merged_under s).size w (has c.loop-w.used) (has c.insert.new.self)
          (far_inside (merged_under s) (merged_lawful (board_of s)) c.args.v w joined)
          (λ k. given_one c.loop-w.w-iterator c.next.new.self w k steps)
          (λ r small. c.insert.ensures.after r ∙ takes_one (has c.loop-w.used r) (read_at c.args.groups.now w) r _ (ap or_none c.in-Some-groups.is ∙ sym c.from.ensures) small)
          c.loop-w.invariant.1,
    )

pub returns : goal.returns
returns c r small =
    let s = c.args.standing.now in
    let all : given c.loop-w.w-iterator ≡ (merged_under s).joined c.args.v =
    fun_ext (λ k. given_all c.loop-w.w-iterator c.next.new.self k c.in-None.ensures.steps ∙ c.loop-w.invariant.0 k) in
    c.loop-w.invariant.1 r small ∙ ap (λ (p : ℕ → Bool). any (λ k. p k && eqb (read_at c.args.groups.now k) r) (merged_under s).size) all
