-- The moves that were noted, in their array. Assumes nothing.
use Rattle.std.proofs.Common.{◌≡◌, ℕ, zero, suc, ◌+◌, ◌<◌, ◌≤◌, Bool, true, false, cond, not, ◌&&◌, List, [], ◌∷◌, ◌++◌, map, length, get_or, take, drop, set, sym, refl, ap, ◌∙◌, ap₂, add-one, arith}
use Rattle.std.proofs.Math.Seq.{take-set-lt}
use Rattle.std.proofs.lemmas.List.{map-set, get_or-map, get_or-take, length-map, length-take}
use Rattle.session_laws.specs.State.{Move, no_move, waits}
use Rattle.session_laws.specs.Runs.{closed}
use Rattle.kept.specs.Moves.{move_of, moves_in, closed_at, closed_of}
use Rattle.kept.specs.declared.moves.Move.{Move as Row}
use Rattle.kept.specs.declared.noted.Noted.{Noted}

pub moves_long : (n : Noted) → length (moves_in n) ≡ n.many
unfolding moves_in
moves_long n =
    let a : length (map move_of (take n.many n.moves)) ≡ length (take n.many n.moves) = length-map (take n.many n.moves) move_of in
    let b = length-take n.many n.moves in
    let whole : length n.moves ≡ 128 = n.whole in
    let few : n.many ≤ 128 = n.few in
    omega arith

-- one closed
pub one_closed : (n after : Noted) (m : ℕ) (row d : Row) → m < length (moves_in n) → after.many ≡ n.many → after.moves ≡ set n.moves m row →
    move_of row ≡ closed (move_of (get_or n.moves m d)) → moves_in after ≡ closed_at (moves_in n) m
unfolding moves_in
one_closed n after m row d low same rows is =
    let l : m < n.many = (let e : length (moves_in n) ≡ n.many = moves_long n in omega arith) in
    let long : length (take n.many n.moves) ≡ length (moves_in n) = sym (length-map (take n.many n.moves) move_of) in
    let read : get_or (map move_of (take n.many n.moves)) m no_move ≡ move_of (get_or n.moves m d) =
    get_or-map move_of (take n.many n.moves) m d no_move (omega arith) ∙ ap move_of (get_or-take n.many n.moves m d l) in
    ap₂ (λ (k : ℕ) (xs : List Row). map move_of (take k xs)) same rows ∙ (ap (map move_of) (take-set-lt n.many n.moves m row l) ∙
    (map-set move_of (take n.many n.moves) m row ∙ ap (set (map move_of (take n.many n.moves)) m) (is ∙ sym (ap closed read))))

-- f of the first i of a list
mapped_more : {X : Type 0} (f : X → X) (xs : List X) (i : ℕ) (d : X) → i < length xs →
    set (map f (take i xs) ++ drop i xs) i (f (get_or xs i d)) ≡ map f (take (suc i) xs) ++ drop (suc i) xs
mapped_more f [] i d l = absurd (omega arith)
mapped_more f (x ∷ xs) zero d l = refl
mapped_more f (x ∷ xs) (suc i) d l = ap (λ (ys : List _). f x ∷ ys) (mapped_more f xs i d (omega arith))

mapped_here : {X : Type 0} (f : X → X) (xs : List X) (i : ℕ) (d : X) → i < length xs → get_or (map f (take i xs) ++ drop i xs) i d ≡ get_or xs i d
mapped_here f [] i d l = absurd (omega arith)
mapped_here f (x ∷ xs) zero d l = refl
mapped_here f (x ∷ xs) (suc i) d l = mapped_here f xs i d (omega arith)

mapped_first : {X : Type 0} (f : X → X) (xs : List X) (i : ℕ) → i ≤ length xs → take i (map f (take i xs) ++ drop i xs) ≡ map f (take i xs)
mapped_first f xs zero l = refl
mapped_first f [] (suc i) l = absurd (omega arith)
mapped_first f (x ∷ xs) (suc i) l = ap (λ (ys : List _). f x ∷ ys) (mapped_first f xs i (omega arith))

map_taken : {X Y : Type 0} (f : X → Y) (xs : List X) (n : ℕ) → map f (take n xs) ≡ take n (map f xs)
map_taken f xs zero = refl
map_taken f [] (suc n) = refl
map_taken f (x ∷ xs) (suc n) = ap (λ (ys : List _). f x ∷ ys) (map_taken f xs n)

pub closing : (one other : ℕ) (pending waiting : Bool) →
    ◌≡◌ {A = Move} (record { one = one; other = other; pending = pending && not waiting })
    (cond waiting (closed (record { one = one; other = other; pending = pending })) (record { one = one; other = other; pending = pending }))
closing one other true true = refl
closing one other true false = refl
closing one other false true = refl
closing one other false false = refl

-- the first m of a row are done
abbrev pub ClosedUpTo : (ℕ → ℕ) → ℕ → List Row → List Row → ℕ → Type 0
ClosedUpTo table v before rows m = map move_of rows ≡ closed_of table v (take m (map move_of before)) ++ drop m (map move_of before)

pub one_more : (table : ℕ → ℕ) (v : ℕ) (before rows : List Row) (m : ℕ) (row d : Row) → m < length before → m < length rows → ClosedUpTo table v before rows m →
    move_of row ≡ cond (waits table v (move_of (get_or rows m d))) (closed (move_of (get_or rows m d))) (move_of (get_or rows m d)) →
    ClosedUpTo table v before (set rows m row) (m + 1)
one_more table v before rows m row d lb lr so_far is =
    let f : Move → Move = λ x. cond (waits table v x) (closed x) x in
    let ms : List Move = map move_of before in
    let long : length ms ≡ length before = length-map before move_of in
    let here : move_of (get_or rows m d) ≡ get_or ms m no_move =
    sym (get_or-map move_of rows m d no_move lr) ∙ (ap (λ (ys : List Move). get_or ys m no_move) so_far ∙ mapped_here f ms m no_move (omega arith)) in
    map-set move_of rows m row ∙ (ap₂ (λ (ys : List Move) (x : Move). set ys m x) so_far (is ∙ ap f here) ∙
    (mapped_more f ms m no_move (omega arith) ∙ ap (λ k. map f (take k ms) ++ drop k ms) (sym (add-one m))))

pub all_done : (table : ℕ → ℕ) (v : ℕ) (n after : Noted) → after.many ≡ n.many → ClosedUpTo table v n.moves after.moves n.many → moves_in after ≡ closed_of table v (moves_in n)
unfolding moves_in
all_done table v n after same so_far =
    let f : Move → Move = λ m. cond (waits table v m) (closed m) m in
    let ms : List Move = map move_of n.moves in
    let long : length ms ≡ length n.moves = length-map n.moves move_of in
    let whole : length n.moves ≡ 128 = n.whole in
    let few : n.many ≤ 128 = n.few in
    ap (λ (k : ℕ). map move_of (take k after.moves)) same ∙ (map_taken move_of after.moves n.many ∙ (ap (take n.many) so_far ∙
    (mapped_first f ms n.many (omega arith) ∙ ap (map f) (sym (map_taken move_of n.moves n.many)))))
