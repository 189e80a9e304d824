-- Rows after a merge are the rows of the merged graph. Assumes nothing.
use Rattle.std.proofs.Common.{◌≡◌, ℕ, ◌<◌, Bool, true, false, not, ◌&&◌, ◌||◌, eqb, sym, refl, ◌∙◌, inl, inr, arith}
use Rattle.std.proofs.lemmas.Bool.{cases_Bool, cases_eq, both_ways, eq-eqb, ne_eqb}
use Rattle.std.proofs.Math.Bool.{or-false, or-true}
use Rattle.graph.specs.Shape.{Shape, Lawful}
use Rattle.graph.specs.Views.{merged_view}
use Rattle.graph.proofs.Merging.{merged_is_view, same_test}
use Rattle.session_laws.specs.Runs.{united}
use Rattle.session_laws.proofs.Rows.{joined_others, joined_x, joined_y}
use Rattle.session_laws.proofs.Standing.{Name, meet_parts, meet_from}
use Rattle.board.specs.Rows.{spread_to}

and_out : (a : Bool) → ((a && not true) || false) ≡ false
and_out a = elim a as (λ b. ((b && not true) || false) ≡ false) [ true ↦ refl | false ↦ refl ]

and_in : (a : Bool) → ((a && not false) || false) ≡ a
and_in a = elim a as (λ b. ((b && not false) || false) ≡ b) [ true ↦ refl | false ↦ refl ]

-- nothing merged: the graph itself
pub merged_none : (g : Shape) → Lawful g → (u v : ℕ) → g.joined u v ≡ (merged_view (λ w. w) g).joined u v
merged_none g l u v = same_test _ _
    (λ h. meet_from (λ w. w) g l u v (record {
      one_name = record { is_vertex = l.standing u v h; is_own = refl };
      other_name = record { is_vertex = l.standing v u (l.symmetric v u ∙ h); is_own = refl };
      two = λ e. both_ways _ (l.apart v) (rw e at h);
      near = u;
      far = v;
      near_of = refl;
      far_of = refl;
      met = h;
    }))
    (λ h. let m = meet_parts (λ w. w) g u v h in rw (m.near_of, m.far_of) at m.met)

module _ (g : Shape) (l : Lawful g) (table : ℕ → ℕ) (x y : ℕ) (nx : Name table g x) (ny : Name table g y) (lower : x < y)
    (apart : (merged_view table g).joined x y ≡ false) where
  abbrev old : Shape
  old = merged_view table g

  abbrev new : Shape
  new = merged_view (united table y x) g

  old_lawful : Lawful old
  old_lawful = (merged_is_view table).keeps_laws g l

  new_lawful : Lawful new
  new_lawful = (merged_is_view (united table y x)).keeps_laws g l

  differ : x ≡ y → ⊥
  differ e = omega arith

  no_x : old.joined y x ≡ false
  no_x = old_lawful.symmetric y x ∙ apart

  -- x is joined to what either was joined to
  pub row_low : (v : ℕ) → new.joined x v ≡ (old.joined x v || old.joined y v)
  row_low v = elim (cases_eq v x) [
    | inl e ↦ rw e (new_lawful.apart x ∙ sym (let a : old.joined x x ≡ false = old_lawful.apart x in rw (a, no_x)))
    | inr v≠x ↦ elim (cases_eq v y) [
      | inl e ↦
          let here : new.joined x y ≡ false = new_lawful.symmetric x y ∙ joined_y g l table x y nx ny differ x in
          rw e (here ∙ sym (let a : old.joined y y ≡ false = old_lawful.apart y in rw (apart, a)))
      | inr v≠y ↦ joined_x g l table x y nx ny differ v v≠x v≠y
    ]
  ]

  pub row_high : (v : ℕ) → new.joined y v ≡ false
  row_high v = joined_y g l table x y nx ny differ v

  -- in the rows of those that y was joined to, x takes the place of y
  pub row_other : (u v : ℕ) → (u ≡ x → ⊥) → (u ≡ y → ⊥) →
      new.joined u v ≡ spread_to (old.joined y) x y old.joined u v
  row_other u v u≠x u≠y = elim (cases_Bool (old.joined y u)) [
    | inl near ↦ elim (cases_eq v x) [
      | inl e ↦
          let is : eqb v x ≡ true = eq-eqb v x e in
          let now-joined : new.joined u x ≡ true =
          new_lawful.symmetric u x ∙ (row_low u ∙ (rw near (or-true (old.joined x u)))) in
          let out : new.joined u v ≡ true = rw e now-joined in
          rw (near, is) (out ∙ sym (or-true _))
      | inr v≠x ↦
          let is-not : eqb v x ≡ false = ne_eqb v x v≠x in
          elim (cases_eq v y) [
            | inl e ↦
                let is : eqb v y ≡ true = eq-eqb v y e in
                let none : new.joined u v ≡ false = rw e (new_lawful.symmetric u y ∙ row_high u) in
                rw (near, is-not, is) (none ∙ sym (and_out (old.joined u v)))
            | inr v≠y ↦
                let is : eqb v y ≡ false = ne_eqb v y v≠y in
                rw (near, is-not, is) (joined_others g l table x y nx ny differ u v u≠x u≠y v≠x v≠y ∙ sym (and_in (old.joined u v)))
          ]
    ]
    | inr far ↦ elim (cases_eq v x) [
      | inl e ↦
          let swap : new.joined u x ≡ old.joined u x =
          new_lawful.symmetric u x ∙ (row_low u ∙ ((rw far (or-false (old.joined x u))) ∙ old_lawful.symmetric x u)) in
          rw (far, e) swap
      | inr v≠x ↦ elim (cases_eq v y) [
        | inl e ↦
            let none : new.joined u y ≡ false = new_lawful.symmetric u y ∙ row_high u in
            let was : old.joined u y ≡ false = old_lawful.symmetric u y ∙ far in
            rw (far, e) (none ∙ sym was)
        | inr v≠y ↦ rw far (joined_others g l table x y nx ny differ u v u≠x u≠y v≠x v≠y)
      ]
    ]
  ]
