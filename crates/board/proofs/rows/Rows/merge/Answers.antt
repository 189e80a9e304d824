use Rattle.std.proofs.Common.{ℕ, ◌<◌, Bool, ◌||◌, length, get_or, sym, ap, ◌∙◌, arith}
use mathlib.Core.Path.{fun_ext}
use Rattle.numbers.specs.Sets.{has}
use Rattle.board.specs.Rows.{row_has, spread_to}
use Rattle.board.proofs.Lookup.{row_at}
use Rattle.board.proofs.Spreading.{rows_now}
use Rattle.board.proofs.rows.Rows.merge.Goals as goal

pub returns : goal.returns
returns c =
    let before = c.args.self.now.sets in
    let low = c.args.low in
    let high = c.args.high in
    let l-low : low < length before = omega arith in
    let l-high : high < length before = omega arith in
    rows_now low high before c.spread.new.self.sets c.union-both.result c.new.result c.requires.0 c.requires.1 (omega arith)
    (λ u v. c.spread.ensures u v ∙ ap (λ (p : ℕ → Bool). spread_to p low high (row_has before) u v) (fun_ext (λ k. sym (row_at before high k _ l-high))))
    (λ v. c.union-both.ensures v ∙ (ap (λ x. x || has (get_or before high c.index-self-high.result) v) (sym (row_at before low v _ l-low)) ∙ ap (λ x. row_has before low v || x) (sym (row_at before high v _ l-high))))
    c.new.ensures
