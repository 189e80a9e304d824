-- The view that joins the fixed vertices to one another. Assumes nothing.
use Rattle.std.proofs.Common.{◌≡◌, ℕ, Bool, true, false, not, ◌&&◌, ◌||◌, eqb, refl, ap₂, inl, inr, arith}
use Rattle.std.proofs.lemmas.Bool.{and_parts, or_cases, or_left}
use Rattle.std.proofs.lemmas.Bool.Decides.{nat_tests}
use Rattle.graph.specs.Shape.{Shape}
use Rattle.graph.specs.Joining.{same_pair}
use Rattle.graph.specs.Views.{View, clique_view}
use Rattle.graph.proofs.Pairs.{same_shape, eqb_sym, eqb_same, both_turned}

-- the pairs that the view adds
abbrev both_fixed : (ℕ → Bool) → Shape → ℕ → ℕ → Bool
both_fixed fixed s u v = ((fixed u && s.stands u) && (fixed v && s.stands v)) && not (eqb u v)

or_moved : (j p f : Bool) → ((j || p) || f) ≡ ((j || f) || p)
or_moved j p f = grind (arith, nat_tests)

never_itself : (j e k : Bool) → j ≡ false → e ≡ true → (j || (k && not e)) ≡ false
never_itself j e k f g = grind (arith, nat_tests)

pub clique_is_view : (fixed : ℕ → Bool) → View (clique_view fixed)
clique_is_view fixed = record {
  keeps_size = λ s. refl;
  hides = λ s v h. h;
  shows = λ s u v hu hv ne l h. or_left (s.joined u v) (both_fixed fixed s u v) h;
  adds = λ s u v hu hv ne l. same_shape s.size s.stands (λ a b.
      or_moved (s.joined a b) (same_pair u v a b) (both_fixed fixed s a b));
  keeps_laws = λ s l. record {
    least = l.least;
    most = l.most;
    inside = l.inside;
    symmetric = λ u v. ap₂ (λ x y. x || y) (l.symmetric u v)
        (both_turned (eqb u v) (eqb v u) (fixed u && s.stands u) (fixed v && s.stands v) (eqb_sym u v));
    apart = λ v. never_itself (s.joined v v) (eqb v v) ((fixed v && s.stands v) && (fixed v && s.stands v)) (l.apart v) (eqb_same v);
    standing = λ u v h. elim (or_cases (s.joined u v) (both_fixed fixed s u v) h) [
      | inl e ↦ l.standing u v e
      | inr e ↦ (and_parts (fixed u) (s.stands u) (and_parts _ (fixed v && s.stands v) (and_parts _ (not (eqb u v)) e).0).0).1
    ];
  };
}
