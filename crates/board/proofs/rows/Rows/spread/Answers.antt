use Rattle.std.proofs.Common.{◌≡◌, ◌<◌, true, not, ◌&&◌, ◌||◌, eqb, ltb, length, sym, ap, ◌∙◌, arith}
use Rattle.std.proofs.lemmas.Bool.{lt-ltb}
use Rattle.numbers.specs.Iterating.{source, place, given}
use Rattle.numbers.specs.Sets.{has}
use Rattle.numbers.specs.declared.number_set.NumberSet.{NumberSet}
use Rattle.numbers.proofs.Going.{given_none, given_one, given_all}
use Rattle.board.specs.Rows.{row_has}
use Rattle.board.proofs.Lookup.{row_at}
use Rattle.board.proofs.Spreading.{spread_none, spread_turn, spread_all, given_later}
use Rattle.board.proofs.rows.Rows.spread.Goals as goal

pub loop-w-init : goal.loop-w-init
loop-w-init c =
    let same = c.into_iter-w-iterator.ensures.into_iter_gives in (
      ap source same ∙ c.iter-w-items.ensures.set,
      spread_none _ _ _ _ (λ k. given_none c.into_iter-w-iterator.result k (ap place same ∙ c.iter-w-items.ensures.start)),
    )

pub loop-w-preserved : goal.loop-w-preserved
loop-w-preserved c =
    let steps = c.in-Some.ensures.steps in
    let rows = c.loop-w.self.sets in
    let w = c.in-Some.w in
    let long : length rows ≡ 512 = c.loop-w.self.whole in
    let low : w < 512 = steps.2.2 in
    let inside : w < length rows = omega arith in
    let small : ltb c.args.low 512 ≡ true = lt-ltb c.args.low 512 c.requires in (
      steps.0 ∙ c.loop-w.invariant.0,
      spread_turn (given c.loop-w.w-iterator) (given c.next.new.self) c.args.low c.args.high (row_has c.args.self.now.sets) rows w c.insert.new.self inside
          (given_later c.loop-w.w-iterator w steps.2.1)
          (λ k. given_one c.loop-w.w-iterator c.next.new.self w k steps)
          c.loop-w.invariant.1
          (λ v. c.insert.ensures.after v ∙ (rw small (ap (λ x. x || eqb v c.args.low) (c.remove.ensures v ∙ ap (λ x. x && not (eqb v c.args.high)) (sym (row_at rows w v _ inside)))))),
    )

pub returns : goal.returns
returns c =
    spread_all (given c.loop-w.w-iterator) (has c.args.gone.now) c.args.low c.args.high (row_has c.args.self.now.sets) c.loop-w.self.sets
    (λ k. given_all c.loop-w.w-iterator c.next.new.self k c.in-None.ensures.steps ∙ ap (λ (s : NumberSet). has s k) c.loop-w.invariant.0)
    c.loop-w.invariant.1
