-- A session in which nothing was called yet. Assumes nothing.
use Rattle.std.proofs.Common.{◌≡◌, ℕ, Bool, true, false, not, ◌&&◌, eqb, [], sym, refl, ap, ◌∙◌, subst, arith}
use mathlib.Core.Path.{fun_ext}
use Rattle.std.proofs.lemmas.Bool.{eq-eqb}
use Rattle.std.proofs.lemmas.Bool.Decides.{nat_tests}
use Rattle.numbers.specs.Sets.{has}
use Rattle.numbers.specs.declared.number_set.NumberSet.{NumberSet}
use Rattle.session_laws.specs.State.{State, opened, standing_graph}
use Rattle.session_laws.specs.Invariants.{SoundState}
use Rattle.session_laws.proofs.Sound.{opened_sound}
use Rattle.standing.specs.Standing.{base_of}
use Rattle.standing.specs.declared.standing.Standing.{Standing}
use Rattle.standing.proofs.Shapes.{base_sound}
use Rattle.kept.specs.Moves.{moves_in}
use Rattle.kept.specs.Removed.{groups_in}
use Rattle.kept.specs.Sound.{SoundKept, Fresh, state_over}
use Rattle.kept.specs.declared.noted.Noted.{Noted}
use Rattle.kept.specs.declared.removed.Removed.{Removed}
use Rattle.kept.proofs.After.{state_same}

none_gone : (a b : Bool) → b ≡ true → a ≡ ((a && b) && not false)
none_gone a b h = grind (arith, nat_tests)

module _ (standing : Standing) (removed : Removed) (moves : Noted) (temporaries : NumberSet) (fresh : Fresh standing) (none_removed : groups_in removed ≡ [])
    (none_noted : moves_in moves ≡ []) (empty : (v : ℕ) → has temporaries v ≡ false) where
  pub opened_state : state_over standing removed moves temporaries ≡ opened
  opened_state = state_same _ _ _ _ _ _ _ _ fresh.table none_removed none_noted (fun_ext empty)

  pub opened_kept : SoundKept standing removed moves temporaries
  opened_kept = record {
    left = λ v. fresh.left v ∙ (none_gone ((base_of standing).graph.stands v) (eqb v v) (eq-eqb v v refl) ∙
        sym (ap (λ (s : State). (standing_graph (base_of standing) s).stands v) opened_state));
    state = subst (λ (s : State). SoundState (base_of standing) s) (sym opened_state) (opened_sound (base_of standing) (base_sound standing));
  }
