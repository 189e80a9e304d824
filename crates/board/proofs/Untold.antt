-- Taking facts out of where only their being there is told: each of them can hold in one way. Assumes nothing.
use Rattle.std.proofs.Common.{◌≡◌, ℕ, ◌<◌, ◌≤◌, Bool, ltb, leb, List}
use mathlib.Core.Bool.{Bool-set}
use mathlib.Core.Logic.{∥∥₁_elim}
use native.Mathlib.Nat.{ℕ_set}
use Rattle.std.proofs.lemmas.Bool.{le-leb, leb-true, lt-ltb, ltb-true}
use Rattle.graph.specs.Shape.{Shape, Lawful}
use Rattle.numbers.specs.declared.number_set.NumberSet.{NumberSet}
use Rattle.board.specs.Sound.{SoundBoard}

pub told_test : {X : Type 0} (a b : Bool) → ∥ X ∥₁ → (X → a ≡ b) → a ≡ b
told_test a b t f = ∥∥₁_elim t (Bool-set a b) f

pub told_number : {X : Type 0} (a b : ℕ) → ∥ X ∥₁ → (X → a ≡ b) → a ≡ b
told_number a b t f = ∥∥₁_elim t (ℕ_set a b) f

pub told_most : {X : Type 0} (a b : ℕ) → ∥ X ∥₁ → (X → a ≤ b) → a ≤ b
told_most a b t f = leb-true a b (∥∥₁_elim t (Bool-set (leb a b) _) (λ x. le-leb a b (f x)))

pub told_less : {X : Type 0} (a b : ℕ) → ∥ X ∥₁ → (X → a < b) → a < b
told_less a b t f = ltb-true a b (∥∥₁_elim t (Bool-set (ltb a b) _) (λ x. lt-ltb a b (f x)))

pub told_lawful : {X : Type 0} (s : Shape) → ∥ X ∥₁ → (X → Lawful s) → Lawful s
told_lawful s t f = record {
  least = told_most _ _ t (λ x. (f x).least);
  most = told_most _ _ t (λ x. (f x).most);
  inside = λ v h. told_less _ _ t (λ x. (f x).inside v h);
  symmetric = λ u v. told_test _ _ t (λ x. (f x).symmetric u v);
  apart = λ v. told_test _ _ t (λ x. (f x).apart v);
  standing = λ u v h. told_test _ _ t (λ x. (f x).standing u v h);
}

pub told_board : (size : ℕ) (vertices : NumberSet) (given rows : List NumberSet) (to : List ℕ) →
    ∥ SoundBoard size vertices given rows to ∥₁ → SoundBoard size vertices given rows to
told_board size vertices given rows to t = record {
  lawful = told_lawful _ t (λ x. x.lawful);
  up_to_date = λ u v. told_test _ _ t (λ x. x.up_to_date u v);
}
