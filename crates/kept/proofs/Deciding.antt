-- What merge decides. Assumes nothing.
use Rattle.std.proofs.Common.{◌≡◌, ℕ, ◌<◌, ◌≤◌, Bool, true, false, ◌&&◌, ◌||◌, ltb, length, sym, ap, ◌∙◌, ap₂}
use Rattle.std.proofs.lemmas.Bool.{lt-ltb, le-ltb, cond-true, cond-false, eq-eqb, ne_eqb}
use Rattle.graph.specs.Shape.{Shape}
use Rattle.session_laws.specs.Base.{fixed}
use Rattle.session_laws.specs.State.{Move, standing_graph, move_at}
use Rattle.session_laws.specs.Calls.{refused, together, apart, merged}
use Rattle.session_laws.specs.Outcomes.{merge_outcome, settled}
use Rattle.session_laws.specs.Tests.{may_merge}
use Rattle.standing.specs.Standing.{graph_of, fixed_in, registers_of}
use Rattle.kept.specs.Kept.{base_of, state_of}
use Rattle.kept.specs.Moves.{move_of}
use Rattle.kept.specs.declared.kept.Kept.{Kept}
use Rattle.kept.specs.declared.moves.Move.{Move as Row}
use Rattle.kept.proofs.Facts.{graph_is}

module _ (k : Kept) (m row : ℕ) where
  pub merge_short : row < 512 → merge_outcome (base_of k) (state_of k) m row ≡ refused 2
  merge_short h = cond-true _ _ _ (lt-ltb row 512 h)

  module _ (long : 512 ≤ row) where
    opens : ltb row 512 ≡ false
    opens = le-ltb row 512 long

    pub merge_none : length (state_of k).moves ≤ m → merge_outcome (base_of k) (state_of k) m row ≡ refused 13
    merge_none h = cond-false _ _ _ opens ∙ cond-false _ _ _ (le-ltb m _ h)

    module _ (low : m < length (state_of k).moves) (ends : Row) (is : move_of ends ≡ move_at (state_of k) m) where
      pub merge_shut : ends.pending ≡ false → merge_outcome (base_of k) (state_of k) m row ≡ refused 17
      merge_shut h = cond-false _ _ _ opens ∙ (cond-true _ _ _ (lt-ltb m _ low) ∙ cond-false _ _ _ (sym (ap (λ (x : Move). x.pending) is) ∙ h))

      module _ (open-yet : ends.pending ≡ true) (x y : ℕ) (ex : x ≡ (state_of k).table ends.one) (ey : y ≡ (state_of k).table ends.other) where
        pub x_is : x ≡ (state_of k).table (move_at (state_of k) m).one
        x_is = ex ∙ ap (λ (z : Move). (state_of k).table z.one) is

        pub y_is : y ≡ (state_of k).table (move_at (state_of k) m).other
        y_is = ey ∙ ap (λ (z : Move). (state_of k).table z.other) is

        merge_open : merge_outcome (base_of k) (state_of k) m row ≡ settled (base_of k) (state_of k) m (move_at (state_of k) m).one (move_at (state_of k) m).other x y
        merge_open = cond-false _ _ _ opens ∙ (cond-true _ _ _ (lt-ltb m _ low) ∙ (cond-true _ _ _ (sym (ap (λ (x : Move). x.pending) is) ∙ open-yet) ∙
            ap₂ (λ (a b : ℕ). settled (base_of k) (state_of k) m (move_at (state_of k) m).one (move_at (state_of k) m).other a b) (sym x_is) (sym y_is)))

        pub merge_together : x ≡ y → merge_outcome (base_of k) (state_of k) m row ≡ together m
        merge_together e = merge_open ∙ cond-true _ _ _ (eq-eqb x y e)

        module _ (differ : x ≡ y → ⊥) (conflict : Bool)
            (ec : conflict ≡ ((standing_graph (base_of k) (state_of k)).joined x y || (fixed (base_of k) x && fixed (base_of k) y))) where
          pub merge_apart : conflict ≡ true → merge_outcome (base_of k) (state_of k) m row ≡ apart m
          merge_apart h = merge_open ∙ (cond-false _ _ _ (ne_eqb x y differ) ∙ cond-true _ _ _ (sym ec ∙ h))

          module _ (free : conflict ≡ false) (t : Bool) (et : t ≡ may_merge (fixed_in k.standing) (registers_of k.standing) (graph_of k.standing) x y) where
            test_is : may_merge (fixed (base_of k)) (base_of k).registers (standing_graph (base_of k) (state_of k)) x y ≡ t
            unfolding base_of
            test_is = sym (et ∙ ap (λ (g : Shape). may_merge (fixed (base_of k)) (base_of k).registers g x y) (graph_is k))

            pub merge_merged : t ≡ true → merge_outcome (base_of k) (state_of k) m row ≡ merged m (move_at (state_of k) m).one (move_at (state_of k) m).other
            merge_merged h = merge_open ∙ (cond-false _ _ _ (ne_eqb x y differ) ∙ (cond-false _ _ _ (sym ec ∙ free) ∙ cond-true _ _ _ (test_is ∙ h)))

            pub merge_not : t ≡ false → merge_outcome (base_of k) (state_of k) m row ≡ refused 17
            merge_not h = merge_open ∙ (cond-false _ _ _ (ne_eqb x y differ) ∙ (cond-false _ _ _ (sym ec ∙ free) ∙ cond-false _ _ _ (test_is ∙ h)))
