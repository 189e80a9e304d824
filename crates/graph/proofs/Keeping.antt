-- Views that hide vertices. Assumes nothing.
use Rattle.std.proofs.Common.{◌≡◌, ℕ, Bool, true, ◌&&◌, ◌||◌, Option, refl, inl, inr, arith}
use Rattle.std.proofs.lemmas.Bool.{and_parts, and_from}
use Rattle.std.proofs.lemmas.Bool.Decides.{nat_tests}
use Rattle.graph.specs.Joining.{same_pair}
use Rattle.graph.specs.Views.{View, keeping, class_view, removed_view}
use Rattle.classes.specs.declared.class.Class.{Class}
use Rattle.graph.proofs.Pairs.{same_shape, pair_is}

keep_added : (j p k l : Bool) → (p ≡ true → k ≡ true) → (p ≡ true → l ≡ true) →
    ((j || p) && (k && l)) ≡ ((j && (k && l)) || p)
keep_added j p k l f g = grind (arith, nat_tests)

and_turned : (x y k l : Bool) → x ≡ y → (x && (k && l)) ≡ (y && (l && k))
and_turned x y k l e = grind (arith, nat_tests)

both_kept : (kept : ℕ → Bool) (u v a b : ℕ) → kept u ≡ true → kept v ≡ true → same_pair u v a b ≡ true →
    (kept a ≡ true) × (kept b ≡ true)
both_kept kept u v a b hu hv h = elim (pair_is u v a b h) [
  | inl (x, y) ↦ (rw x hu, rw y hv)
  | inr (x, y) ↦ (rw x hv, rw y hu)
]

pub keeping_view : (kept : ℕ → Bool) → View (keeping kept)
keeping_view kept = record {
  keeps_size = λ s. refl;
  hides = λ s v h. (and_parts _ _ h).0;
  shows = λ s u v hu hv ne l h. and_from (s.joined u v) (kept u && kept v) h
      (and_from (kept u) (kept v) (and_parts (s.stands u) (kept u) hu).1 (and_parts (s.stands v) (kept v) hv).1);
  adds = λ s u v hu hv ne l. same_shape s.size (λ a. s.stands a && kept a) (λ a b.
      keep_added (s.joined a b) (same_pair u v a b) (kept a) (kept b)
      (λ h. (both_kept kept u v a b (and_parts _ _ hu).1 (and_parts _ _ hv).1 h).0)
      (λ h. (both_kept kept u v a b (and_parts _ _ hu).1 (and_parts _ _ hv).1 h).1));
  keeps_laws = λ s l. record {
    least = l.least;
    most = l.most;
    inside = λ v h. l.inside v (and_parts _ _ h).0;
    symmetric = λ u v. and_turned (s.joined u v) (s.joined v u) (kept u) (kept v) (l.symmetric u v);
    apart = λ v. let e = l.apart v in rw e;
    standing = λ u v h. and_from _ _ (l.standing u v (and_parts _ _ h).0) (and_parts _ _ (and_parts _ _ h).1).0;
  };
}

pub class_is_view : (classes : ℕ → Option Class) (chosen : Class) → View (class_view classes chosen)
class_is_view classes chosen = keeping_view _

pub removed_is_view : (gone : ℕ → Bool) → View (removed_view gone)
removed_is_view gone = keeping_view _
