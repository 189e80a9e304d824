-- The two groups that a merge is granted on. Assumes nothing.
use Rattle.std.proofs.Common.{◌≡◌, ℕ, ◌+◌, ◌<◌, ◌≤◌, min, max, true, false, ltb, leb, refl, ◌∙◌, inl, inr, arith}
use Rattle.std.proofs.lemmas.Bool.{cases_lt, and_parts, and_from, ltb-true, both_ways, false_from_ne_true}
use Rattle.session_laws.specs.Bank.{among}
use Rattle.session_laws.specs.Base.{Base, SoundBase, fixed}
use Rattle.session_laws.specs.State.{State, standing_graph}
use Rattle.session_laws.specs.Tests.{may_merge}
use Rattle.session_laws.specs.Grounds.{MergedOn}
use Rattle.session_laws.specs.Invariants.{SoundState}
use Rattle.session_laws.proofs.Merges.{Names}
use Rattle.session_laws.proofs.Standing.{Stands, stands_parts, standing_lawful}

pub fixed_low : (b : Base) → SoundBase b → (v : ℕ) → fixed b v ≡ true → v < 32
fixed_low b sb v h =
    let p = and_parts (among b.first b.registers v) (b.graph.stands v) h in
    let q : v < b.first + b.registers = ltb-true _ _ (and_parts (leb b.first v) (ltb v (b.first + b.registers)) p.0).1 in
    let r : b.first + b.registers ≤ 32 = sb.low in
    omega arith

-- x and y are the names of the groups of u and v, the lower first
pub record Groups (b : Base) (s : State) (u v x y : ℕ) : Type 0 where
  pub lower : x < y
  pub names : Names (s.table u) (s.table v) x y
  pub x_stands : Stands b s x
  pub y_stands : Stands b s y
  pub y_loose : fixed b y ≡ false
  pub not_joined : (standing_graph b s).joined x y ≡ false
  pub test : may_merge (fixed b) b.registers (standing_graph b s) (s.table u) (s.table v) ≡ true

-- the higher of two names is not fixed, unless both are
higher_loose : (b : Base) → SoundBase b → (s : State) (x y : ℕ) → x < y → Stands b s x →
    (fixed b x ≡ true → fixed b y ≡ true → ⊥) → fixed b y ≡ false
higher_loose b sb s x y lower sx not-both = false_from_ne_true (fixed b y) (λ fy.
    let low : y < 32 = fixed_low b sb y fy in
    not-both (sb.registers_fixed x sx.name.is_vertex (omega arith)) fy)

pub groups_of : (b : Base) → SoundBase b → (s : State) → SoundState b s → (m u v : ℕ) → MergedOn b s m u v →
    Groups b s u v (min (s.table u) (s.table v)) (max (s.table u) (s.table v))
groups_of b sb s ss m u v g =
    let one : Stands b s (s.table u) = stands_parts b s _ (rw g.one_end (ss.one_stands m g.is_open.is_pending)) in
    let other : Stands b s (s.table v) = stands_parts b s _ (rw g.other_end (ss.other_stands m g.is_open.is_pending)) in
    let not-both : fixed b (s.table u) ≡ true → fixed b (s.table v) ≡ true → ⊥ = λ fu fv.
    both_ways _ g.not_fixed (and_from _ _ fu fv) in
    let differ : s.table u ≡ s.table v → ⊥ = g.two_groups in
    elim (cases_lt (s.table u) (s.table v)) [
      | inl lt ↦
          let x_is : min (s.table u) (s.table v) ≡ s.table u = omega arith in
          let y_is : max (s.table u) (s.table v) ≡ s.table v = omega arith in
          rw (x_is, y_is) (record {
            lower = lt;
            names = inl (refl, refl);
            x_stands = one;
            y_stands = other;
            y_loose = higher_loose b sb s _ _ lt one not-both;
            not_joined = g.not_joined;
            test = g.test;
          })
      | inr ge ↦
          let lt : s.table v < s.table u = omega arith in
          let x_is : min (s.table u) (s.table v) ≡ s.table v = omega arith in
          let y_is : max (s.table u) (s.table v) ≡ s.table u = omega arith in
          rw (x_is, y_is) (record {
            lower = lt;
            names = inr (refl, refl);
            x_stands = other;
            y_stands = one;
            y_loose = higher_loose b sb s _ _ lt other (λ fv fu. not-both fu fv);
            not_joined = (standing_lawful b sb s).symmetric _ _ ∙ g.not_joined;
            test = g.test;
          })
    ]
