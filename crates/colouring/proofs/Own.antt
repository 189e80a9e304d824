-- Own numbers, one vertex after the other, in a row of numbers that has 255 for none. Assumes nothing.
use Rattle.std.proofs.Common.{◌≡◌, ℕ, ◌+◌, ◌<◌, ◌≤◌, true, false, List, length, get_or, set, replicate, sym, ◌∙◌, inl, inr, arith, length-set}
use Rattle.std.proofs.lemmas.Bool.{cases_lt, cond-true, cond-false}
use Rattle.std.proofs.lemmas.List.{get_or-set_same, get_or-set_other, get_or-replicate, get_or_past, length-replicate}
use Rattle.session_laws.specs.Base.{Base, fixed}
use Rattle.session_laws.specs.Colouring.{none, own_number}

-- past the end there is none
abbrev pub number_at : List ℕ → ℕ → ℕ
number_at groups w = get_or groups w none

pub none_given : (n w : ℕ) → number_at (replicate n 255) w ≡ 255
none_given n w = elim (cases_lt w n) [
  | inl l ↦ get_or-replicate {A = ℕ} n w 255 255 l
  | inr h ↦
      let long : length {A = ℕ} (replicate n 255) ≤ w = rw (length-replicate {A = ℕ} n 255) h in
      get_or_past {X = ℕ} (replicate n 255) w 255 long
]

-- fixed vertices below v have their own number, others none
abbrev pub OwnBelow : Base → List ℕ → ℕ → Type 0
OwnBelow b groups v =
    (length groups ≡ 512) ×
    ((w : ℕ) → w < v → number_at groups w ≡ own_number b w) ×
    ((w : ℕ) → v ≤ w → number_at groups w ≡ 255)

module _ (b : Base) (groups : List ℕ) (v : ℕ) (low : v < 32) (so_far : OwnBelow b groups v) where
  pub own_then : fixed b v ≡ true → OwnBelow b (set groups v v) (v + 1)
  own_then is =
      let long : length groups ≡ 512 = so_far.0 in (
        length-set groups v v ∙ long,
        λ w l. elim (cases_lt w v) [
          | inl below ↦ get_or-set_other groups v w v 255 (λ e. omega arith) ∙ so_far.1 w below
          | inr above ↦
              let e : w ≡ v = omega arith in
              let now : number_at (set groups v v) v ≡ own_number b v = get_or-set_same groups v v 255 (omega arith) ∙ sym (cond-true _ _ _ is) in
              rw e now
        ],
        λ w l. get_or-set_other groups v w v 255 (λ e. omega arith) ∙ so_far.2 w (omega arith),
      )

  pub own_else : fixed b v ≡ false → OwnBelow b groups (v + 1)
  own_else is = (
    so_far.0,
    λ w l. elim (cases_lt w v) [
      | inl below ↦ so_far.1 w below
      | inr above ↦
          let e : w ≡ v = omega arith in
          let now : number_at groups v ≡ own_number b v = so_far.2 v (omega arith) ∙ sym (cond-false _ _ _ is) in
          rw e now
    ],
    λ w l. so_far.2 w (omega arith),
  )

pub own_at : (b : Base) (groups groups' : List ℕ) (v : ℕ) → groups ≡ groups' → OwnBelow b groups' v → OwnBelow b groups v
own_at b groups groups' v e h = rw e h
