-- The view in which each group of a table is one vertex. Assumes nothing.
use Rattle.std.proofs.Common.{◌≡◌, ℕ, ◌<◌, Bool, true, false, not, ◌&&◌, ◌||◌, eqb, sym, refl, ap, ap₂, ◌∙◌, inl, inr, arith}
use Rattle.std.proofs.lemmas.Bool.{and_parts, and_from, or_cases, or_left, or_right, eqb-true, eq-eqb, not_from_false}
use Rattle.std.proofs.lemmas.Bool.Decides.{nat_tests}
use Rattle.graph.specs.Counting.{any}
use Rattle.graph.specs.Shape.{Shape, Lawful}
use Rattle.graph.specs.Joining.{same_pair, with_pair}
use Rattle.graph.specs.Views.{View, merged_view, groups_joined, names_group}
use Rattle.graph.proofs.Counting.{any_witness, any_from}
use Rattle.graph.proofs.Pairs.{same_shape, eqb_sym, eqb_same, pair_is, both_turned, never_same}

-- two tests are one where each gives the other
pub same_test : (x y : Bool) → (x ≡ true → y ≡ true) → (y ≡ true → x ≡ true) → x ≡ y
same_test x y f g = grind (arith, nat_tests)

-- Members of two groups that are joined.
pub record Linked (table : ℕ → ℕ) (s : Shape) (u v a b : ℕ) : Type 0 where
  pub a_inside : a < s.size
  pub b_inside : b < s.size
  pub a_of : table a ≡ u
  pub b_of : table b ≡ v
  pub linked : s.joined a b ≡ true

pub groups_from : (table : ℕ → ℕ) (s : Shape) (u v a b : ℕ) → Linked table s u v a b → groups_joined table s u v ≡ true
groups_from table s u v a b k =
    any_from (λ x. eqb (table x) u && any (λ y. eqb (table y) v && s.joined x y) s.size) s.size a k.a_inside
    (and_from (eqb (table a) u) (any (λ y. eqb (table y) v && s.joined a y) s.size) (eq-eqb (table a) u k.a_of)
    (any_from (λ y. eqb (table y) v && s.joined a y) s.size b k.b_inside
    (and_from (eqb (table b) v) (s.joined a b) (eq-eqb (table b) v k.b_of) k.linked)))

pub groups_witness : (table : ℕ → ℕ) (s : Shape) (u v : ℕ) → groups_joined table s u v ≡ true →
    (a : ℕ) × ((b : ℕ) × Linked table s u v a b)
groups_witness table s u v h =
    let w = any_witness (λ x. eqb (table x) u && any (λ y. eqb (table y) v && s.joined x y) s.size) s.size h in
    let a : ℕ = w.0 in
    let p = and_parts (eqb (table a) u) (any (λ y. eqb (table y) v && s.joined a y) s.size) w.1.1 in
    let z = any_witness (λ y. eqb (table y) v && s.joined a y) s.size p.1 in
    let b : ℕ = z.0 in
    let q = and_parts (eqb (table b) v) (s.joined a b) z.1.1 in (
      a,
      (
        b,
        record {
          a_inside = w.1.0;
          b_inside = z.1.0;
          a_of = eqb-true (table a) u p.0;
          b_of = eqb-true (table b) v q.0;
          linked = q.1;
        },
      ),
    )

groups_turned : (table : ℕ → ℕ) (s : Shape) → Lawful s → (u v : ℕ) → groups_joined table s u v ≡ true →
    groups_joined table s v u ≡ true
groups_turned table s l u v h =
    let w = groups_witness table s u v h in
    let a : ℕ = w.0 in
    let b : ℕ = w.1.0 in
    let k = w.1.1 in
    groups_from table s v u b a (record {
      a_inside = k.b_inside;
      b_inside = k.a_inside;
      a_of = k.b_of;
      b_of = k.a_of;
      linked = sym (l.symmetric a b) ∙ k.linked;
    })

-- two different names of groups
abbrev pub two_groups : (ℕ → ℕ) → Shape → ℕ → ℕ → Bool
two_groups table s u v = (names_group table s u && names_group table s v) && not (eqb u v)

two_turned : (table : ℕ → ℕ) (s : Shape) (u v : ℕ) → two_groups table s u v ≡ two_groups table s v u
two_turned table s u v = both_turned (eqb u v) (eqb v u) (names_group table s u) (names_group table s v) (eqb_sym u v)

name_of : (table : ℕ → ℕ) (s : Shape) (v : ℕ) → names_group table s v ≡ true → table v ≡ v
name_of table s v h = eqb-true (table v) v (and_parts (s.stands v) (eqb (table v) v) h).1

-- a pair of names that is added below links their own two groups, and no others
added_links : (table : ℕ → ℕ) (s : Shape) (u v a b : ℕ) → table u ≡ u → table v ≡ v →
    groups_joined table (with_pair s u v) a b ≡ true → (groups_joined table s a b || same_pair u v a b) ≡ true
added_links table s u v a b hu hv h =
    let w = groups_witness table (with_pair s u v) a b h in
    let x : ℕ = w.0 in
    let y : ℕ = w.1.0 in
    let k = w.1.1 in
    elim (or_cases (s.joined x y) (same_pair u v x y) k.linked) [
      | inl e ↦ or_left (groups_joined table s a b) (same_pair u v a b) (groups_from table s a b x y (record {
        a_inside = k.a_inside;
        b_inside = k.b_inside;
        a_of = k.a_of;
        b_of = k.b_of;
        linked = e;
      }))
      | inr e ↦
          let x-of : table x ≡ a = k.a_of in
          let y_of : table y ≡ b = k.b_of in
          or_right (groups_joined table s a b) (same_pair u v a b) (elim (pair_is u v x y e) [
            | inl (p, q) ↦
                let pa : a ≡ u = sym x-of ∙ (ap table p ∙ hu) in
                let pb : b ≡ v = sym y_of ∙ (ap table q ∙ hv) in
                grind (arith, nat_tests)
            | inr (p, q) ↦
                let pa : a ≡ v = sym x-of ∙ (ap table p ∙ hv) in
                let pb : b ≡ u = sym y_of ∙ (ap table q ∙ hu) in
                grind (arith, nat_tests)
          ])
    ]

-- what was linked stays linked
kept_links : (table : ℕ → ℕ) (s : Shape) (u v a b : ℕ) → groups_joined table s a b ≡ true →
    groups_joined table (with_pair s u v) a b ≡ true
kept_links table s u v a b h =
    let w = groups_witness table s a b h in
    let x : ℕ = w.0 in
    let y : ℕ = w.1.0 in
    let k = w.1.1 in
    groups_from table (with_pair s u v) a b x y (record {
      a_inside = k.a_inside;
      b_inside = k.b_inside;
      a_of = k.a_of;
      b_of = k.b_of;
      linked = or_left (s.joined x y) (same_pair u v x y) k.linked;
    })

-- the two groups are linked
new_link : (table : ℕ → ℕ) (s : Shape) (u v a b : ℕ) → names_group table s a ≡ true → names_group table s b ≡ true → Lawful s →
    same_pair u v a b ≡ true → groups_joined table (with_pair s u v) a b ≡ true
new_link table s u v a b ha hb l h = groups_from table (with_pair s u v) a b a b (record {
  a_inside = l.inside a (and_parts (s.stands a) (eqb (table a) a) ha).0;
  b_inside = l.inside b (and_parts (s.stands b) (eqb (table b) b) hb).0;
  a_of = name_of table s a ha;
  b_of = name_of table s b hb;
  linked = or_right (s.joined a b) (same_pair u v a b) h;
})

-- the pair u and v, in either order, is two groups where they are
pair_names : (table : ℕ → ℕ) (s : Shape) (u v a b : ℕ) → names_group table s u ≡ true → names_group table s v ≡ true →
    eqb u v ≡ false → same_pair u v a b ≡ true →
    (names_group table s a ≡ true) × (names_group table s b ≡ true) × (eqb a b ≡ false)
pair_names table s u v a b hu hv ne h = elim (pair_is u v a b h) [
  | inl (p, q) ↦ (rw p hu, rw q hv, rw (p, q) ne)
  | inr (p, q) ↦ (rw p hv, rw q hu, rw (p, q) (eqb_sym v u ∙ ne))
]

merged_adds : (table : ℕ → ℕ) (s : Shape) (u v : ℕ) → names_group table s u ≡ true → names_group table s v ≡ true →
    eqb u v ≡ false → Lawful s → (a b : ℕ) →
    (two_groups table s a b && groups_joined table (with_pair s u v) a b)
    ≡ ((two_groups table s a b && groups_joined table s a b) || same_pair u v a b)
merged_adds table s u v hu hv ne l a b =
    let t : Bool = two_groups table s a b in
    let g : Bool = groups_joined table s a b in
    let g' : Bool = groups_joined table (with_pair s u v) a b in
    let p : Bool = same_pair u v a b in
    let more : g' ≡ true → (g || p) ≡ true = added_links table s u v a b (name_of table s u hu) (name_of table s v hv) in
    let kept : g ≡ true → g' ≡ true = kept_links table s u v a b in
    let two : p ≡ true → t ≡ true = λ h.
    let n = pair_names table s u v a b hu hv ne h in
    and_from (names_group table s a && names_group table s b) (not (eqb a b))
    (and_from (names_group table s a) (names_group table s b) n.0 n.1) (not_from_false (eqb a b) n.2) in
    let new : p ≡ true → g' ≡ true = λ h.
    let n = pair_names table s u v a b hu hv ne h in new_link table s u v a b n.0 n.1 l h in
    joins t g g' p more kept two new
  where
    joins : (t g g' p : Bool) → (g' ≡ true → (g || p) ≡ true) → (g ≡ true → g' ≡ true) → (p ≡ true → t ≡ true) →
        (p ≡ true → g' ≡ true) → (t && g') ≡ ((t && g) || p)
    joins t g g' p more kept two new = grind (arith, nat_tests)

-- names of groups that are joined themselves
own_link : (table : ℕ → ℕ) (s : Shape) (u v : ℕ) → names_group table s u ≡ true → names_group table s v ≡ true → Lawful s →
    s.joined u v ≡ true → groups_joined table s u v ≡ true
own_link table s u v hu hv l h = groups_from table s u v u v (record {
  a_inside = l.inside u (and_parts (s.stands u) (eqb (table u) u) hu).0;
  b_inside = l.inside v (and_parts (s.stands v) (eqb (table v) v) hv).0;
  a_of = name_of table s u hu;
  b_of = name_of table s v hv;
  linked = h;
})

pub merged_is_view : (table : ℕ → ℕ) → View (merged_view table)
merged_is_view table = record {
  keeps_size = λ s. refl;
  hides = λ s v h. (and_parts (s.stands v) (eqb (table v) v) h).0;
  shows = λ s u v hu hv ne l h. and_from (two_groups table s u v) (groups_joined table s u v)
      (and_from (names_group table s u && names_group table s v) (not (eqb u v))
      (and_from (names_group table s u) (names_group table s v) hu hv) (not_from_false (eqb u v) ne))
      (own_link table s u v hu hv l h);
  adds = λ s u v hu hv ne l. same_shape s.size (names_group table s) (merged_adds table s u v hu hv ne l);
  keeps_laws = λ s l. record {
    least = l.least;
    most = l.most;
    inside = λ v h. l.inside v (and_parts (s.stands v) (eqb (table v) v) h).0;
    symmetric = λ u v. ap₂ (λ x y. x && y)
        (two_turned table s u v)
        (same_test (groups_joined table s u v) (groups_joined table s v u) (groups_turned table s l u v) (groups_turned table s l v u));
    apart = λ v. never_same (names_group table s v && names_group table s v) (groups_joined table s v v) (eqb v v) (eqb_same v);
    standing = λ u v h.
        (and_parts (names_group table s u) (names_group table s v)
        (and_parts (names_group table s u && names_group table s v) (not (eqb u v))
        (and_parts (two_groups table s u v) (groups_joined table s u v) h).0).0).0;
  };
}
