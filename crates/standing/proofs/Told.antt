-- Taking facts out of where only their being there is told. Assumes nothing.
use Rattle.std.proofs.Common.{ℕ}
use Rattle.numbers.specs.declared.number_set.NumberSet.{NumberSet}
use Rattle.board.specs.declared.board.Board.{Board}
use Rattle.board.proofs.Untold.{told_test, told_most, told_lawful}
use Rattle.session_laws.specs.Base.{Base, SoundBase}
use Rattle.standing.specs.Sound.{SoundStanding}

pub told_base : {X : Type 0} (b : Base) → ∥ X ∥₁ → (X → SoundBase b) → SoundBase b
told_base b t f = record {
  lawful = told_lawful b.graph t (λ x. (f x).lawful);
  some = told_most _ _ t (λ x. (f x).some);
  low = told_most _ _ t (λ x. (f x).low);
  registers_fixed = λ v h l. told_test _ _ t (λ x. (f x).registers_fixed v h l);
  clique = λ u v fu fv ne. told_test _ _ t (λ x. (f x).clique u v fu fv ne);
}

pub told_standing : (board : Board) (first registers : ℕ) (left : NumberSet) →
    ∥ SoundStanding board first registers left ∥₁ → SoundStanding board first registers left
told_standing board first registers left t = record {
  base = told_base _ t (λ x. x.base);
  inside = λ v h. told_test _ _ t (λ x. x.inside v h);
}
