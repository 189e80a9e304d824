-- Joining a number to the members of a set, lowest first. Assumes nothing.
use Rattle.std.proofs.Common.{◌≡◌, ℕ, zero, suc, ◌+◌, ◌-◌, ◌<◌, ◌≤◌, Bool, true, false, ◌&&◌, ltb, List, [], ◌∷◌, ◌++◌, map, Ok, Err, Some, None, sym, ap, ◌∙◌, ap₂, add-zero, add-suc, add-one, inl, inr, arith}
use Rattle.std.proofs.lemmas.List.{append-nil}
use Rattle.std.proofs.lemmas.Bool.{cases_lt}
use Rattle.std.proofs.lemmas.Bool.Decides.{nat_tests}
use Rattle.numbers.specs.Iterating.{source, place, Gives}
use Rattle.numbers.specs.Sets.{has}
use Rattle.numbers.specs.declared.members.Members.{Members}
use Rattle.numbers.specs.declared.number_set.NumberSet.{NumberSet}
use Rattle.numbers.proofs.Counting.{first_found, first_none}
use Rattle.numbers.proofs.Sets.{has_large}
use Rattle.graph.specs.Shape.{Meaning}
use Rattle.graph.specs.Joining.{join_answer, join_meaning}
use Rattle.graph.specs.declared.refusal.Refusal.{Refusal}
use Rattle.allocation.specs.Interference.{Edge, edge, cond_one, passing, filled}
use Rattle.joining.proofs.Lists.{SoFar, and_then, filled_stops, grown_to, map_append, one_answer, one_left, passing_same}

-- numbers that do not pass add nothing
passing_skips : (p : ℕ → Bool) (a d : ℕ) → ((v : ℕ) → a ≤ v → v < a + d → p v ≡ false) → passing p (a + d) ≡ passing p a
passing_skips p a zero none = ap (passing p) (add-zero a)
passing_skips p a (suc d) none =
    let last : p (a + d) ≡ false = none (a + d) (omega arith) (omega arith) in
    ap (passing p) (add-suc a d) ∙ (ap (λ b. passing p (a + d) ++ cond_one b (a + d)) last ∙ (append-nil (passing p (a + d))
    ∙ passing_skips p a d (λ v l h. none v l (omega arith))))

passing_past : (p : ℕ → Bool) (a n : ℕ) → a ≤ n → ((v : ℕ) → a ≤ v → v < n → p v ≡ false) → passing p n ≡ passing p a
passing_past p a n l none =
    let e : a + (n - a) ≡ n = omega arith in
    ap (passing p) (sym e) ∙ passing_skips p a (n - a) (λ v low high. none v low (omega arith))

-- the least number from `a` on that passes is the next in the list
passing_next : (p : ℕ → Bool) (a x : ℕ) → a ≤ x → p x ≡ true → ((v : ℕ) → a ≤ v → v < x → p v ≡ false) →
    passing p (x + 1) ≡ passing p a ++ (x ∷ [])
passing_next p a x low here none =
    ap (passing p) (add-one x) ∙ ap₂ (λ xs b. xs ++ cond_one b x) (passing_past p a x low none) here

-- what q has below n, cut off at m, where q has nothing from m on: the numbers below n that pass
passing_cut : (p q : ℕ → Bool) (n m : ℕ) → ((v : ℕ) → p v ≡ (q v && (ltb v n && ltb v m))) → ((v : ℕ) → m ≤ v → q v ≡ false) →
    passing p m ≡ passing q n
passing_cut p q n m cut large =
    elim (cases_lt n m) [
      | inl l ↦
          passing_past p n m (omega arith) (λ v low high. cut v ∙ grind (arith, nat_tests)) ∙
          passing_same p q n (λ v h. cut v ∙ grind (arith, nat_tests))
      | inr l ↦
          passing_same p q m (λ v h. cut v ∙ grind (arith, nat_tests)) ∙ sym (passing_past q m n l (λ v low high. large v low))
    ]

pub all_members : (s t : NumberSet) (n : ℕ) → ((v : ℕ) → has s v ≡ (has t v && (ltb v n && ltb v 512))) → passing (has s) 512 ≡ passing (has t) n
all_members s t n cut = passing_cut (has s) (has t) n 512 cut (has_large t)

-- where the iterator gives no more, all have been given
pub no_more : (before after : Members) → Gives before None after → passing (has (source before)) (place before) ≡ passing (has (source before)) 512
no_more before after gives =
    let p = has (source before) in
    let a = place before in
    elim (cases_lt a 512) [
      | inl l ↦ sym (passing_past p a 512 (omega arith) (λ v low high. first_none p a (512 - a) (sym gives.1) v low (omega arith)))
      | inr h ↦ passing_past p 512 a h (λ v low high. has_large (source before) v low)
    ]

-- where the iterator gives no more, all below n have been given
pub no_more_to : (before after : Members) (n : ℕ) → place before ≤ n → Gives before None after →
    passing (has (source before)) (place before) ≡ passing (has (source before)) n
no_more_to before after n inside gives =
    let p = has (source before) in
    let a = place before in
    sym (passing_past p a n inside (λ v low high. elim (cases_lt v 512) [
      | inl l ↦ first_none p a (512 - a) (sym gives.1) v low (omega arith)
      | inr h ↦ has_large (source before) v h
    ]))

-- where the member that it gives is not below n, all below n have been given
pub no_more_below : (before after : Members) (n x : ℕ) → place before ≤ n → n ≤ x → Gives before (Some x) after →
    passing (has (source before)) (place before) ≡ passing (has (source before)) n
no_more_below before after n x inside past gives =
    let p = has (source before) in
    let a = place before in
    let found = first_found p a (512 - a) x (sym gives.1) in
    sym (passing_past p a n inside (λ v low high. found.3 v low (omega arith)))

-- One member more, which an iterator gives, is joined to u, where all before it are.
module _ (m now : Meaning) (u : ℕ) (before after : Members) (x : ℕ) (gives : Gives before (Some x) after)
    (so_far : SoFar m now (map (edge u) (passing (has (source before)) (place before)))) where
  abbrev members : ℕ → List Edge
  members k = map (edge u) (passing (has (source before)) k)

  abbrev one : List Edge
  one = edge u x ∷ []

  grows : members (x + 1) ≡ members (place before) ++ one
  grows =
      let found = first_found (has (source before)) (place before) (512 - place before) x (sym gives.1) in
      ap (map (edge u)) (passing_next (has (source before)) (place before) x gives.2.1 gives.2.3 found.3) ∙
      map_append (edge u) (passing (has (source before)) (place before)) (x ∷ [])

  both : filled m (members (x + 1)) ≡ filled now one
  both = and_then m now (members (place before)) one (members (x + 1)) grows so_far

  pub member_joined : (next : Meaning) → Ok tt ≡ join_answer now u x → next ≡ join_meaning now u x →
      SoFar m next (map (edge u) (passing (has (source after)) (place after)))
  member_joined next ok left =
      rw (gives.0, gives.2.0) (record {
        fine = ap (λ f. f.answer) both ∙ sym (ok ∙ one_answer (join_answer now u x) (join_meaning now u x));
        left = left ∙ (one_left (join_answer now u x) (join_meaning now u x) ∙ sym (ap (λ f. f.left) both));
      })

  -- a refusal ends the whole
  pub member_refused : (e : Refusal) (n : ℕ) → x < n → Err e ≡ join_answer now u x →
      filled m (map (edge u) (passing (has (source before)) n)) ≡ filled now (edge u x ∷ [])
  member_refused e n inside err =
      let refused : (filled m (members (x + 1))).answer ≡ Err e =
      ap (λ f. f.answer) both ∙ sym (err ∙ one_answer (join_answer now u x) (join_meaning now u x)) in
      let more : ℕ → List Edge = λ k. map (edge u) (cond_one (has (source before) k) k) in
      let rest = grown_to members more (λ k. map_append (edge u) (passing (has (source before)) k) (cond_one (has (source before) k) k)) (x + 1) n (omega arith) in
      ap (filled m) rest.1 ∙ (filled_stops m (members (x + 1)) rest.0 e refused ∙ both)
