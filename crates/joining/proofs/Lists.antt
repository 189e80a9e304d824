-- Joining pairs one list after the other. Assumes nothing.
use Rattle.std.proofs.Common.{◌≡◌, ℕ, zero, suc, ◌+◌, ◌-◌, ◌<◌, ◌≤◌, Bool, true, not, ◌&&◌, eqb, ltb, List, [], ◌∷◌, ◌++◌, map, Some, None, Ok, Err, Result, sym, refl, ap, ◌∙◌, ap₂, append_assoc, add-zero, add-suc, add-one, arith}
use Rattle.std.specs.List.{slice_get}
use Rattle.std.proofs.lemmas.Bool.{eq-eqb}
use Rattle.std.proofs.lemmas.Bool.Decides.{nat_tests}
use Rattle.code.specs.Codes.{is_move}
use Rattle.liveness.specs.Flow.{names, passes}
use Rattle.liveness.specs.Joins.{moves}
use Rattle.joining.specs.Near.{near}
use Rattle.graph.specs.Shape.{Meaning}
use Rattle.graph.specs.Joining.{join_answer, join_meaning}
use Rattle.graph.specs.declared.refusal.Refusal.{Refusal}
use Rattle.code.specs.Rows.{Fields}
use Rattle.joining.specs.Chains.{JoinedOn}
use Rattle.joining.specs.Chains.JoinedOn.{unchanged, one_more}
use Rattle.allocation.specs.Interference.{Edge, edge, cond_one, passing, row_edges, edges_below, edges_from, destination_at, joins_at, live_after, Filled, filled, then_filled}

-- what one list of pairs leaves, and then another
abbrev go_on : Result (Unit {0}) Refusal → Filled → Filled → Filled
go_on (Ok x) so_far rest = rest
go_on (Err e) so_far rest = so_far

after_one : (a : Result (Unit {0}) Refusal) (next : Meaning) (rest more : Filled) (ys : List Edge) →
    more ≡ go_on rest.answer rest (filled rest.left ys) →
    then_filled a next more ≡ go_on (then_filled a next rest).answer (then_filled a next rest) (filled (then_filled a next rest).left ys)
after_one (Ok x) next rest more ys e = e
after_one (Err r) next rest more ys e = refl

filled_more : (m : Meaning) (xs ys : List Edge) → filled m (xs ++ ys) ≡ go_on (filled m xs).answer (filled m xs) (filled (filled m xs).left ys)
filled_more m [] ys = refl
filled_more m (e ∷ es) ys =
    let next = join_meaning m e.one e.other in
    after_one (join_answer m e.one e.other) next (filled next es) (filled next (es ++ ys)) ys (filled_more next es ys)

-- where the first list is joined, the second begins with what it left
pub filled_then : (m : Meaning) (xs ys : List Edge) → (filled m xs).answer ≡ Ok tt → filled m (xs ++ ys) ≡ filled (filled m xs).left ys
filled_then m xs ys ok = filled_more m xs ys ∙ ap (λ (a : Result (Unit {0}) Refusal). go_on a (filled m xs) (filled (filled m xs).left ys)) ok

-- where one of the first list is refused, that is the end
pub filled_stops : (m : Meaning) (xs ys : List Edge) (e : Refusal) → (filled m xs).answer ≡ Err e → filled m (xs ++ ys) ≡ filled m xs
filled_stops m xs ys e stop = filled_more m xs ys ∙ ap (λ (a : Result (Unit {0}) Refusal). go_on a (filled m xs) (filled (filled m xs).left ys)) stop

pub one_answer : (a : Result (Unit {0}) Refusal) (next : Meaning) → a ≡ (then_filled a next (record { answer = Ok tt; left = next })).answer
one_answer (Ok x) next = refl
one_answer (Err e) next = refl

pub one_left : (a : Result (Unit {0}) Refusal) (next : Meaning) → next ≡ (then_filled a next (record { answer = Ok tt; left = next })).left
one_left (Ok x) next = refl
one_left (Err e) next = refl

pub map_append : {A B : Type 0} (f : A → B) (xs ys : List A) → map f (xs ++ ys) ≡ map f xs ++ map f ys
map_append f [] ys = refl
map_append f (x ∷ xs) ys = ap (λ zs. f x ∷ zs) (map_append f xs ys)

-- a list of lists that grows by one at a time
module _ {A : Type 0} (grown : ℕ → List A) (more : ℕ → List A) (grows : (k : ℕ) → grown (suc k) ≡ grown k ++ more k) where
  pub grown_on : (k d : ℕ) → (rest : List A) × (grown (k + d) ≡ grown k ++ rest)
  grown_on k zero = ([], ap grown (add-zero k) ∙ sym (append-nil (grown k)))
    where
      append-nil : (xs : List A) → xs ++ [] ≡ xs
      append-nil [] = refl
      append-nil (x ∷ xs) = ap (λ zs. x ∷ zs) (append-nil xs)
  grown_on k (suc d) =
      let before = grown_on k d in
      (before.0 ++ more (k + d), ap grown (add-suc k d) ∙ (grows (k + d) ∙ (ap (λ zs. zs ++ more (k + d)) before.1 ∙ append_assoc (grown k) before.0 (more (k + d)))))

  pub grown_to : (k n : ℕ) → k ≤ n → (rest : List A) × (grown n ≡ grown k ++ rest)
  grown_to k n l =
      let e : k + (n - k) ≡ n = omega arith in
      let on = grown_on k (n - k) in
      (on.0, ap grown (sym e) ∙ on.1)

-- A graph that pairs are joined in, list by list: the pairs so far are joined.
pub record SoFar (m now : Meaning) (xs : List Edge) : Type 0 where
  pub fine : (filled m xs).answer ≡ Ok tt
  pub left : now ≡ (filled m xs).left

-- another list is joined after those so far
pub and_then : (m now : Meaning) (xs ys both : List Edge) → both ≡ xs ++ ys → SoFar m now xs → filled m both ≡ filled now ys
and_then m now xs ys both e so_far = ap (filled m) e ∙ (filled_then m xs ys so_far.fine ∙ ap (λ n. filled n ys) (sym so_far.left))

module _ (grown : ℕ → List Edge) (more : ℕ → List Edge) (grows : (k : ℕ) → grown (suc k) ≡ grown k ++ more k) (m : Meaning) where
  abbrev one_on : (k : ℕ) → grown (k + 1) ≡ grown k ++ more k
  one_on k = ap grown (add-one k) ∙ grows k

  -- one list more
  pub goes_on : (k : ℕ) (now next : Meaning) → SoFar m now (grown k) → (filled now (more k)).answer ≡ Ok tt → next ≡ (filled now (more k)).left →
      SoFar m next (grown (k + 1))
  goes_on k now next so_far ok left =
      let both : filled m (grown (k + 1)) ≡ filled now (more k) = and_then m now (grown k) (more k) (grown (k + 1)) (one_on k) so_far in
      record { fine = ap (λ f. f.answer) both ∙ ok; left = left ∙ sym (ap (λ f. f.left) both) }

  -- a pair of the next list is refused: so is it in the whole
  pub stops : (k n : ℕ) (now : Meaning) (e : Refusal) → k + 1 ≤ n → SoFar m now (grown k) → (filled now (more k)).answer ≡ Err e →
      filled m (grown n) ≡ filled now (more k)
  stops k n now e l so_far err =
      let both : filled m (grown (k + 1)) ≡ filled now (more k) = and_then m now (grown k) (more k) (grown (k + 1)) (one_on k) so_far in
      let rest = grown_to grown more grows (k + 1) n l in
      ap (filled m) rest.1 ∙ (filled_stops m (grown (k + 1)) rest.0 e (ap (λ f. f.answer) both ∙ err) ∙ both)

-- the lists of one number's pairs, and of the rows
pub passing_grows : (u : ℕ) (p : ℕ → Bool) (k : ℕ) → map (edge u) (passing p (suc k)) ≡ map (edge u) (passing p k) ++ map (edge u) (cond_one (p k) k)
passing_grows u p k = map_append (edge u) (passing p k) (cond_one (p k) k)

pub edges_grow : (rows : List Fields) (n k : ℕ) → edges_below rows n (suc k) ≡ edges_below rows n k ++ row_edges rows n k
edges_grow rows n k = refl

-- joins after joins
pub joined_then : {G : Type 0} (leaves : G → ℕ → ℕ → G → Type 0) {g h k : G} → JoinedOn leaves g h → JoinedOn leaves h k → JoinedOn leaves g k
joined_then leaves before unchanged = before
joined_then leaves before (one_more u v on last) = one_more u v (joined_then leaves before on) last

-- the pairs of a row that sets nothing, of no row, and of a row that sets `to`
pub no_row : (rows : List Fields) (n i : ℕ) → slice_get rows i ≡ None → row_edges rows n i ≡ []
unfolding row_edges
no_row rows n i e = ap (λ o. edges_from rows n i (destination_at o)) e

pub sets_none : (rows : List Fields) (n i : ℕ) (f : Fields) → slice_get rows i ≡ Some f → f.destination ≡ None → row_edges rows n i ≡ []
unfolding row_edges
sets_none rows n i f e d = ap (λ o. edges_from rows n i (destination_at o)) e ∙ ap (edges_from rows n i) d

pub passing_same : (p q : ℕ → Bool) (n : ℕ) → ((v : ℕ) → v < n → p v ≡ q v) → passing p n ≡ passing q n
passing_same p q zero e = refl
passing_same p q (suc n) e = ap₂ (λ xs b. xs ++ cond_one b n) (passing_same p q n (λ v l. e v (omega arith))) (e n (omega arith))

near_joins : (f : Fields) (to v : ℕ) (live : Bool) →
    (((live && not (is_move f && names f.first v)) && not (ltb to 32 && ltb v 32)) && not (eqb v to)) ≡
    ((not (eqb to v) && (not (is_move f && (true && names f.first v)) && not (ltb to 32 && ltb v 32))) && live)
near_joins f to v live = grind (arith, nat_tests)

module _ (rows : List Fields) (n i : ℕ) (f : Fields) (to : ℕ) (row : slice_get rows i ≡ Some f) (set : f.destination ≡ Some to) where
  moves_is : (v : ℕ) → moves rows i to v ≡ (is_move f && (true && names f.first v))
  unfolding moves
  moves_is v =
      ap (λ o. passes o (λ g. is_move g && (names g.destination to && names g.first v))) row ∙
      ap (λ b. is_move f && (b && names f.first v)) (ap (λ d. names d to) set ∙ eq-eqb to to refl)

  near_is : (live : ℕ → Bool) → ((v : ℕ) → live v ≡ live_after rows i v) → (v : ℕ) → near f to live v ≡ joins_at rows i to v
  near_is live is v =
      near_joins f to v (live v) ∙
      ap₂ (λ m l. (not (eqb to v) && (not m && not (ltb to 32 && ltb v 32))) && l) (sym (moves_is v)) (is v)

  pub row_joins : (others : ℕ → Bool) (live : ℕ → Bool) → ((v : ℕ) → others v ≡ near f to live v) → ((v : ℕ) → live v ≡ live_after rows i v) →
      map (edge to) (passing others n) ≡ row_edges rows n i
  unfolding row_edges
  row_joins others live near-ones is =
      ap (map (edge to)) (passing_same others (joins_at rows i to) n (λ v l. near-ones v ∙ near_is live is v)) ∙
      sym (ap (λ o. edges_from rows n i (destination_at o)) row ∙ ap (edges_from rows n i) set)
