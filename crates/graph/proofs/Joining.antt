-- What join comes to, by what is found of the pair; and joining through a view. Assumes nothing.
use Rattle.std.proofs.Common.{◌≡◌, ℕ, ◌-◌, ◌<◌, Bool, true, false, ◌&&◌, eqb, Ok, Err, Result, sym, refl, ap, ◌∙◌, subst, inl, inr, arith}
use Rattle.std.proofs.lemmas.Bool.{and_parts, and_from, true≢false, cases_Bool}
use Rattle.std.proofs.lemmas.Bool.Decides.{nat_tests}
use Rattle.graph.specs.Shape.{Shape, Meaning, Lawful}
use Rattle.graph.specs.Judging.{judged}
use Rattle.graph.specs.Joining.{judge_of, settled, with_pair, answer_of, meaning_of, join_answer, join_meaning}
use Rattle.graph.specs.Views.{View, over, HandedDown}
use Rattle.graph.specs.declared.pair.Pair.{Pair}
use Rattle.graph.specs.declared.pair.Pair.TheVariants.{Present, Fresh}
use Rattle.graph.specs.declared.refusal.Refusal.{Refusal}
use Rattle.graph.specs.declared.refusal.Refusal.TheVariants.{Full}

pub refused_answer : (m : Meaning) (u v : ℕ) (r : Refusal) → judge_of m.shape u v ≡ Err r → join_answer m u v ≡ Err r
refused_answer m u v r e = ap (λ (p : Result Pair Refusal). answer_of (settled p m.free)) e

pub refused_meaning : (m : Meaning) (u v : ℕ) (r : Refusal) → judge_of m.shape u v ≡ Err r → join_meaning m u v ≡ m
refused_meaning m u v r e = ap (λ (p : Result Pair Refusal). meaning_of (settled p m.free) m u v) e

pub present_answer : (m : Meaning) (u v : ℕ) → judge_of m.shape u v ≡ Ok Present → join_answer m u v ≡ Ok tt
present_answer m u v e = ap (λ (p : Result Pair Refusal). answer_of (settled p m.free)) e

pub present_meaning : (m : Meaning) (u v : ℕ) → judge_of m.shape u v ≡ Ok Present → join_meaning m u v ≡ m
present_meaning m u v e = ap (λ (p : Result Pair Refusal). meaning_of (settled p m.free) m u v) e

-- What a fresh pair is.
pub record Unjoined (s : Shape) (u v : ℕ) : Type 0 where
  pub u_inside : u < s.size
  pub v_inside : v < s.size
  pub u_stands : s.stands u ≡ true
  pub v_stands : s.stands v ≡ true
  pub differ : eqb u v ≡ false
  pub unjoined : s.joined u v ≡ false

judged_fresh : (n u v : ℕ) (t j : Bool) → judged n u v t j ≡ Ok Fresh →
    (u < n) × (v < n) × (t ≡ true) × (eqb u v ≡ false) × (j ≡ false)
judged_fresh n u v t j e = grind (arith, nat_tests)

fresh_judged : (n u v : ℕ) (t j : Bool) → u < n → v < n → t ≡ true → eqb u v ≡ false → j ≡ false → judged n u v t j ≡ Ok Fresh
fresh_judged n u v t j hu hv ht ne hj = grind (arith, nat_tests)

pub fresh_pair : (s : Shape) (u v : ℕ) → judge_of s u v ≡ Ok Fresh → Unjoined s u v
fresh_pair s u v e =
    let f = judged_fresh s.size u v (s.stands u && s.stands v) (s.joined u v) e in
    let b = and_parts (s.stands u) (s.stands v) f.2 in
    record {
      u_inside = f.0;
      v_inside = f.1;
      u_stands = b.0;
      v_stands = b.1;
      differ = f.3;
      unjoined = f.4;
    }

pub pair_fresh : (s : Shape) (u v : ℕ) → Unjoined s u v → judge_of s u v ≡ Ok Fresh
pair_fresh s u v k = fresh_judged s.size u v (s.stands u && s.stands v) (s.joined u v)
    k.u_inside k.v_inside (and_from (s.stands u) (s.stands v) k.u_stands k.v_stands) k.differ k.unjoined

-- a pair that is not joined in a view is not joined below
pub fresh_below : (f : Shape → Shape) → View f → (s : Shape) (u v : ℕ) → Lawful s → Unjoined (f s) u v → Unjoined s u v
fresh_below f w s u v l k = record {
  u_inside = l.inside u (w.hides s u k.u_stands);
  v_inside = l.inside v (w.hides s v k.v_stands);
  u_stands = w.hides s u k.u_stands;
  v_stands = w.hides s v k.v_stands;
  differ = k.differ;
  unjoined = elim (cases_Bool (s.joined u v)) [
    | inl e ↦ absurd (true≢false (sym (w.shows s u v k.u_stands k.v_stands k.differ l e) ∙ k.unjoined))
    | inr e ↦ e
  ];
}

pub full_answer : (m : Meaning) (u v : ℕ) → judge_of m.shape u v ≡ Ok Fresh → m.free ≡ 0 → join_answer m u v ≡ Err Full
full_answer m u v e h = ap (λ (p : Result Pair Refusal). answer_of (settled p m.free)) e ∙ rw h

pub full_meaning : (m : Meaning) (u v : ℕ) → judge_of m.shape u v ≡ Ok Fresh → m.free ≡ 0 → join_meaning m u v ≡ m
full_meaning m u v e h = ap (λ (p : Result Pair Refusal). meaning_of (settled p m.free) m u v) e ∙ rw h

pub added_answer : (m : Meaning) (u v : ℕ) → judge_of m.shape u v ≡ Ok Fresh → eqb m.free 0 ≡ false → join_answer m u v ≡ Ok tt
added_answer m u v e h = ap (λ (p : Result Pair Refusal). answer_of (settled p m.free)) e ∙ rw h

pub added_meaning : (m : Meaning) (u v : ℕ) → judge_of m.shape u v ≡ Ok Fresh → eqb m.free 0 ≡ false →
    join_meaning m u v ≡ record { shape = with_pair m.shape u v; free = m.free - 1 }
added_meaning m u v e h = ap (λ (p : Result Pair Refusal). meaning_of (settled p m.free) m u v) e ∙ rw h

-- a pair that is fresh in a view is fresh below
pub fresh_under : (f : Shape → Shape) → View f → (s : Shape) (u v : ℕ) → Lawful s → judge_of (f s) u v ≡ Ok Fresh → judge_of s u v ≡ Ok Fresh
fresh_under f w s u v l e = pair_fresh s u v (fresh_below f w s u v l (fresh_pair (f s) u v e))

-- so it is answered in the view as below
pub through_answer : (f : Shape → Shape) → View f → (m : Meaning) (u v : ℕ) → Lawful m.shape →
    judge_of (f m.shape) u v ≡ Ok Fresh → join_answer m u v ≡ join_answer (over f m) u v
through_answer f w m u v l e =
    ap (λ (p : Result Pair Refusal). answer_of (settled p m.free)) (fresh_under f w m.shape u v l e ∙ sym e)

-- and joined in the view by being joined below
pub through_meaning : (f : Shape → Shape) → View f → (m : Meaning) (u v : ℕ) → Lawful m.shape →
    judge_of (f m.shape) u v ≡ Ok Fresh → over f (join_meaning m u v) ≡ join_meaning (over f m) u v
through_meaning f w m u v l e =
    let k = fresh_pair (f m.shape) u v e in
    let below = fresh_under f w m.shape u v l e in
    elim (cases_Bool (eqb m.free 0)) [
      | inl full ↦
          ap (λ (p : Result Pair Refusal). over f (meaning_of (settled p m.free) m u v)) below
          ∙ (rw full (sym (ap (λ (p : Result Pair Refusal). meaning_of (settled p m.free) (over f m) u v) e ∙ rw full)))
      | inr room ↦
          ap (λ (p : Result Pair Refusal). over f (meaning_of (settled p m.free) m u v)) below
          ∙ (rw room (ap (λ (s : Shape). record { shape = s; free = m.free - 1 }) (w.adds m.shape u v k.u_stands k.v_stands k.differ l)
          ∙ sym (ap (λ (p : Result Pair Refusal). meaning_of (settled p m.free) (over f m) u v) e ∙ rw room)))
    ]

-- what a graph's own answers tell of a pair
pub seen_fresh : (s : Shape) (u v n : ℕ) (x y j : Bool) → n ≡ s.size → x ≡ s.stands u → y ≡ s.stands v → j ≡ s.joined u v →
    Ok Fresh ≡ judged n u v (x && y) j → judge_of s u v ≡ Ok Fresh
seen_fresh s u v n x y j hn hx hy hj e = rw (sym hn, sym hx, sym hy, sym hj) (sym e)

pub handed_map : (p : Result Pair Refusal) {x y z w : Type 0} → (x → z) → (y → w) → HandedDown p x y → HandedDown p z w
handed_map (Err r) f g h = f h
handed_map (Ok Present) f g h = f h
handed_map (Ok Fresh) f g h = g h

-- a graph seen through a view means what join makes of the view
pub view_joins : (f : Shape → Shape) → View f → (m after : Meaning) (u v : ℕ) → Lawful m.shape →
    HandedDown (judge_of (f m.shape) u v) (after ≡ m) (after ≡ join_meaning m u v) →
    over f after ≡ join_meaning (over f m) u v
view_joins f w m after u v l h = found (judge_of (f m.shape) u v) refl h
  where
    found : (p : Result Pair Refusal) → judge_of (f m.shape) u v ≡ p → HandedDown p (after ≡ m) (after ≡ join_meaning m u v) →
        over f after ≡ join_meaning (over f m) u v
    found (Err r) e k = ap (over f) k ∙ sym (refused_meaning (over f m) u v r e)
    found (Ok Present) e k = ap (over f) k ∙ sym (present_meaning (over f m) u v e)
    found (Ok Fresh) e k = ap (over f) k ∙ through_meaning f w m u v l e

-- the same over the graph that is below, whatever keeps its meaning
pub view_joined : {G : Type 0} (means : G → Meaning) (leaves : G → ℕ → ℕ → G → Type 0)
    (lawful : (g : G) → Lawful (means g).shape)
    (joins : (g : G) (u v : ℕ) (after : G) → leaves g u v after → means after ≡ join_meaning (means g) u v)
    (f : Shape → Shape) → View f → (g after : G) (u v : ℕ) →
    HandedDown (judge_of (f (means g).shape) u v) (after ≡ g) (leaves g u v after) →
    over f (means after) ≡ join_meaning (over f (means g)) u v
view_joined means leaves lawful joins f w g after u v h =
    view_joins f w (means g) (means after) u v (lawful g)
    (handed_map (judge_of (f (means g).shape) u v) {x = after ≡ g} {y = leaves g u v after} (ap means) (joins g u v after) h)

-- what was handed down at a fresh pair
pub handed_at : (x y : Type 0) (p : Result Pair Refusal) → p ≡ Ok Fresh → HandedDown p x y → y
handed_at x y p e h = subst (λ (q : Result Pair Refusal). HandedDown q x y) e h
