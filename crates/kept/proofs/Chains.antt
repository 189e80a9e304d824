-- What the library's `any` answers over a list. Assumes nothing.
use Rattle.std.proofs.Common.{◌≡◌, ℕ, zero, suc, ◌≤◌, Bool, ◌||◌, List, [], ◌∷◌, map, length, get_or, take, sym, refl, ap, ◌∙◌, add-one, arith}
use Rattle.std.proofs.Math.Bool.{or_comm}
use Rattle.std.specs.List.{list_any}
use Rattle.std.proofs.lemmas.List.{take_all}
use Rattle.std.proofs.lemmas.List.Folds.{list_any_more}
use Rattle.graph.specs.Counting.{any}

any_taken : {X : Type 0} (p : X → Bool) (xs : List X) (d : X) (n : ℕ) → n ≤ length xs → list_any p (take n xs) ≡ any (λ i. p (get_or xs i d)) n
any_taken p xs d zero h = refl
any_taken p xs d (suc n) h =
    ap (λ k. list_any p (take k xs)) (sym (add-one n)) ∙ (list_any_more p xs n d (omega arith) ∙
    (or_comm (list_any p (take n xs)) (p (get_or xs n d)) ∙ ap (λ b. p (get_or xs n d) || b) (any_taken p xs d n (omega arith))))

any_mapped : {X Y : Type 0} (f : X → Y) (p : Y → Bool) (xs : List X) → list_any (λ x. p (f x)) xs ≡ list_any p (map f xs)
any_mapped f p [] = refl
any_mapped f p (x ∷ xs) = ap (λ b. p (f x) || b) (any_mapped f p xs)

-- over a list, by the places of what its elements mean
pub any_meant : {X Y : Type 0} (f : X → Y) (p : Y → Bool) (xs : List X) (d : Y) →
    list_any (λ x. p (f x)) xs ≡ any (λ i. p (get_or (map f xs) i d)) (length (map f xs))
any_meant f p xs d =
    any_mapped f p xs ∙ (ap (list_any p) (sym (take_all (length (map f xs)) (map f xs) (omega arith))) ∙
    any_taken p (map f xs) d (length (map f xs)) (omega arith))
