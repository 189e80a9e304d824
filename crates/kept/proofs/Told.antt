-- Taking facts out of where only their being there is told. Assumes nothing.
use Rattle.std.proofs.Common.{ℕ, List, [], ◌∷◌}
use Rattle.numbers.specs.declared.number_set.NumberSet.{NumberSet}
use Rattle.board.proofs.Untold.{told_test, told_number, told_most}
use Rattle.session_laws.specs.Base.{Base}
use Rattle.session_laws.specs.State.{State}
use Rattle.session_laws.specs.Invariants.{Distinct, SoundState}
use Rattle.standing.specs.declared.standing.Standing.{Standing}
use Rattle.kept.specs.Sound.{SoundKept}
use Rattle.kept.specs.declared.noted.Noted.{Noted}
use Rattle.kept.specs.declared.removed.Removed.{Removed}

told_distinct : {X : Type 0} (vs : List ℕ) → ∥ X ∥₁ → (X → Distinct vs) → Distinct vs
told_distinct [] t f = tt
told_distinct (v ∷ vs) t f = (told_test _ _ t (λ x. (f x).0), told_distinct vs t (λ x. (f x).1))

pub told_state : {X : Type 0} (b : Base) (s : State) → ∥ X ∥₁ → (X → SoundState b s) → SoundState b s
told_state b s t f = record {
  lowers = λ v. told_most _ _ t (λ x. (f x).lowers v);
  settles = λ v. told_number _ _ t (λ x. (f x).settles v);
  inside = λ v h. told_test _ _ t (λ x. (f x).inside v h);
  outside = λ v h. told_number _ _ t (λ x. (f x).outside v h);
  own = λ v h. told_number _ _ t (λ x. (f x).own v h);
  removed_name = λ v h. told_number _ _ t (λ x. (f x).removed_name v h);
  removed_vertex = λ v h. told_test _ _ t (λ x. (f x).removed_vertex v h);
  removed_loose = λ v h. told_test _ _ t (λ x. (f x).removed_loose v h);
  removed_once = told_distinct s.removed t (λ x. (f x).removed_once);
  one_stands = λ m h. told_test _ _ t (λ x. (f x).one_stands m h);
  other_stands = λ m h. told_test _ _ t (λ x. (f x).other_stands m h);
  apart_within = λ u v h. told_test _ _ t (λ x. (f x).apart_within u v h);
  few_moves = told_most _ _ t (λ x. (f x).few_moves);
}

pub told_kept : (standing : Standing) (removed : Removed) (moves : Noted) (temporaries : NumberSet) →
    ∥ SoundKept standing removed moves temporaries ∥₁ → SoundKept standing removed moves temporaries
told_kept standing removed moves temporaries t = record {
  left = λ v. told_test _ _ t (λ x. x.left v);
  state = told_state _ _ t (λ x. x.state);
}
