-- Bytes that stand in an input, one part behind the other.
use Rattle.std.proofs.Common.{◌≡◌, ℕ, ◌+◌, ◌<◌, ◌≤◌, List, [], ◌∷◌, ◌++◌, length, get_or, take, drop, sym, refl, ap, ◌∙◌, ap₂, arith, length-append, length-drop, length-take, take-add}
use Rattle.std.proofs.lemmas.List.{drop-drop, take-take, take_at, drop_at, drop-take, drop_more, get_or-drop, get_or-take}
use Rattle.records.specs.Keeping.{Stands}

module _ (input : List ℕ) (at : ℕ) (xs ys : List ℕ) where
  -- one part behind the other is one part
  pub stands_join : Stands input at xs → Stands input (at + length xs) ys → Stands input at (xs ++ ys)
  stands_join front back =
      ap (λ n. take n (drop at input)) (length-append xs ys)
      ∙ (take-add (length xs) (length ys) (drop at input)
      ∙ ap₂ (λ (a b : List ℕ). a ++ b) front (ap (take (length ys)) (drop-drop (length xs) at input) ∙ back))

  long_front : Stands input at (xs ++ ys) → take (length xs + length ys) (drop at input) ≡ xs ++ ys
  long_front all = rw length-append at all

  pub stands_front : Stands input at (xs ++ ys) → Stands input at xs
  stands_front all =
      sym (take-take (length xs) (length xs + length ys) (drop at input) (omega arith))
      ∙ (ap (take (length xs)) (long_front all) ∙ take_at xs ys (length xs) refl)

  pub stands_back : Stands input at (xs ++ ys) → Stands input (at + length xs) ys
  stands_back all =
      ap (take (length ys)) (sym (drop-drop (length xs) at input))
      ∙ (sym (drop-take (length xs) (length ys) (drop at input))
      ∙ (ap (drop (length xs)) (long_front all) ∙ drop_at xs ys (length xs) refl))

-- the same where the place behind the first part has a name of its own
pub stands_next : (input : List ℕ) (at p : ℕ) (xs ys : List ℕ) → p ≡ at + length xs → Stands input at xs → Stands input p ys → Stands input at (xs ++ ys)
stands_next input at p xs ys place front back = stands_join input at xs ys front (rw place at back)

-- a part that stands lies within the input
pub stands_within : (input : List ℕ) (at : ℕ) (x : ℕ) (xs : List ℕ) → Stands input at (x ∷ xs) → at + length (x ∷ xs) ≤ length input
stands_within input at x xs all =
    let e = ap length all in
    omega (arith, length-take (length (x ∷ xs)) (drop at input), length-drop at input, e)

-- what stands at a place of the part
pub stands_at : (input : List ℕ) (at : ℕ) (xs : List ℕ) (k : ℕ) → Stands input at xs → k < length xs → get_or input (at + k) 0 ≡ get_or xs k 0
stands_at input at xs k all less =
    sym (get_or-drop at input k 0) ∙ (sym (get_or-take (length xs) (drop at input) k 0 less) ∙ ap (λ l. get_or l k 0) all)

-- bytes that are there stand there
pub stands_part : (input : List ℕ) (at size : ℕ) → at + size ≤ length input → Stands input at (take size (drop at input))
stands_part input at size within =
    let e : length (take size (drop at input)) ≡ size = simp (length-take, length-drop) (omega arith) in
    ap (λ n. take n (drop at input)) e

pub stands_byte : (input : List ℕ) (at : ℕ) → at + 1 ≤ length input → Stands input at (get_or input at 0 ∷ [])
stands_byte input at within = let less : at < length input = omega arith in rw (drop_more input at 0 less)

pub stands_two : (input : List ℕ) (at : ℕ) → at + 2 ≤ length input → Stands input at (get_or input at 0 ∷ get_or input (at + 1) 0 ∷ [])
stands_two input at within =
    let less : at < length input = omega arith in
    let less' : at + 1 < length input = omega arith in
    rw (drop_more input at 0 less, drop_more input (at + 1) 0 less')
