-- What colour gives out. Assumes nothing.
use Rattle.std.proofs.Common.{Option, ◌≡◌, ℕ, zero, suc, ◌+◌, ◌-◌, ◌<◌, ◌≤◌, true, false, eqb, List, [], ◌∷◌, length, get_or, drop, sym, refl, ap, ◌∙◌, arith}
use mathlib.Core.Path.{fun_ext}
use Rattle.std.proofs.lemmas.Bool.{lt-ltb, le-ltb, cond-true, cond-false, or_left, or_right, eq-eqb}
use Rattle.std.proofs.lemmas.List.{get_or-drop, length-drop}
use Rattle.graph.specs.Counting.{any}
use Rattle.session_laws.specs.Base.{Base}
use Rattle.session_laws.specs.State.{State, listed}
use Rattle.session_laws.specs.Calls.{Call, refused, coloured}
use Rattle.session_laws.specs.Colouring.{register_of, group_register, own_number, painted}
use Rattle.session_laws.specs.Outcomes.{outcome, colour_outcome}
use Rattle.session_laws.specs.Runs.{called, left_by}
use Rattle.standing.specs.Standing.{graph_of, loose_in, board_of, base_of as base_under}
use Rattle.colouring.specs.Painting.{merged_under, read_at, member_register}
use Rattle.kept.specs.Kept.{base_of, state_of, ByRules}
use Rattle.kept.specs.Removed.{groups_in}
use Rattle.kept.specs.declared.kept.Kept.{Kept}
use Rattle.kept.proofs.Facts.{base_sound, state_sound}
use Rattle.kept.proofs.Verdicts.{any_loose_is}

module _ (k : Kept) (n : ℕ) where
  pub colour_short : n < 512 → colour_outcome (base_of k) (state_of k) n ≡ refused 2
  colour_short h = cond-true _ _ _ (lt-ltb n 512 h)

  pub colour_early : 512 ≤ n → any (loose_in k.standing) (graph_of k.standing).size ≡ true → colour_outcome (base_of k) (state_of k) n ≡ refused 18
  colour_early long some = cond-false _ _ _ (le-ltb n 512 long) ∙ cond-true _ _ _ (sym (any_loose_is k) ∙ some)

  pub colour_granted : 512 ≤ n → any (loose_in k.standing) (graph_of k.standing).size ≡ false →
      colour_outcome (base_of k) (state_of k) n ≡ coloured (register_of (base_of k) (state_of k))
  colour_granted long none = cond-false _ _ _ (le-ltb n 512 long) ∙ cond-false _ _ _ (sym (any_loose_is k) ∙ none)

-- of any base and state, and of a session
pub coloured_leaves : (b : Base) (s : State) (c : Call) (register : ℕ → ℕ) → coloured register ≡ outcome b s c → s ≡ called b s c
unfolding left_by
coloured_leaves b s c register e = ap (left_by s) e

pub coloured_rules : (k : Kept) (c : Call) (register : ℕ → ℕ) → coloured register ≡ outcome (base_of k) (state_of k) c → ByRules k k c (coloured register)
unfolding left_by
coloured_rules k c register e = record { answer = e; base = refl; state = ap (left_by (state_of k)) e }

at_listed : (xs : List ℕ) (i d : ℕ) → i < length xs → listed xs (get_or xs i d) ≡ true
at_listed [] i d l = absurd (omega arith)
at_listed (x ∷ xs) zero d l = or_left (eqb x x) (listed xs x) (eq-eqb x x refl)
at_listed (x ∷ xs) (suc i) d l = or_right (eqb x (get_or xs i d)) (listed xs (get_or xs i d)) (at_listed xs i d (omega arith))

-- what is removed is a vertex, so its number is small
pub removed_small : (k : Kept) (i : ℕ) → k.removed.top ≤ i → i < length k.removed.groups → get_or k.removed.groups i 0 < 512
unfolding state_of groups_in
removed_small k i above inside =
    let xs = k.removed.groups in
    let top = k.removed.top in
    let place : top + (i - top) ≡ i = omega arith in
    let long : length (drop top xs) ≡ length xs - top = length-drop top xs in
    let read : get_or (drop top xs) (i - top) 0 ≡ get_or xs i 0 = get_or-drop top xs (i - top) 0 ∙ ap (λ (j : ℕ). get_or xs j 0) place in
    let there : listed (drop top xs) (get_or xs i 0) ≡ true = sym (ap (listed (drop top xs)) read) ∙ at_listed (drop top xs) (i - top) 0 (omega arith) in
    let low : get_or xs i 0 < (base_of k).graph.size = (base_sound k).lawful.inside _ ((state_sound k).removed_vertex _ there) in
    let most : (base_of k).graph.size ≤ 512 = (base_sound k).lawful.most in
    omega arith

-- the registers that were painted are those of the rules
pub registers_are : (k : Kept) (groups : List (Option ℕ)) →
    ((w : ℕ) → read_at groups w ≡ painted (base_under k.standing) (merged_under k.standing) (own_number (base_under k.standing)) (groups_in k.removed) w) →
    (v : ℕ) → member_register k.standing (read_at groups) v ≡ register_of (base_of k) (state_of k) v
unfolding base_of state_of group_register base_under board_of
registers_are k groups is v =
    ap (λ (registers : ℕ → ℕ). member_register k.standing registers v) (fun_ext is)
