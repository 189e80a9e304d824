use Rattle.std.proofs.Common.{◌≡◌, ℕ, Bool, ◌&&◌, ◌||◌, ltb, sym, ap, ◌∙◌, ap₂, inl, inr}
use mathlib.Core.Path.{fun_ext}
use Rattle.std.proofs.lemmas.Bool.{or_cases}
use Rattle.graph.specs.Counting.{count}
use Rattle.numbers.specs.Sets.{has}
use Rattle.session_laws.proofs.Cores.{far_inside}
use Rattle.session_laws.specs.Tests.{briggs, significant}
use Rattle.standing.specs.Standing.{graph_of, base_of, fixed_in, registers_of}
use Rattle.standing.proofs.Shapes.{graph_lawful}
use Rattle.standing.proofs.standing.Standing.briggs.Goals as goal

pub significant_among-requires : goal.significant_among-requires
significant_among-requires c w h =
    let s = c.args.self.now in
    elim (or_cases (has c.row.result w) (has c.row-2.result w) (sym (c.union-near.ensures w) ∙ h)) [
      | inl one ↦ far_inside (graph_of s) (graph_lawful s) c.args.u w (sym (c.row.ensures w) ∙ one)
      | inr other ↦ far_inside (graph_of s) (graph_lawful s) c.args.v w (sym (c.row-2.ensures w) ∙ other)
    ]

pub returns : goal.returns
unfolding briggs base_of
returns c =
    let s = c.args.self.now in
    let g = graph_of s in
    let near : has c.union-near.result ≡ (λ w. g.joined c.args.u w || g.joined c.args.v w) =
    fun_ext (λ w. c.union-near.ensures w ∙ ap₂ (λ x y. x || y) (c.row.ensures w) (c.row-2.ensures w)) in
    ap (λ (k : ℕ). ltb k s.registers)
    (c.significant_among.ensures ∙ ap (λ (p : ℕ → Bool). count (λ w. p w && significant (fixed_in s) (registers_of s) g w) g.size) near)
