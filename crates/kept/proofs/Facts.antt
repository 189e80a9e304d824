-- What every session keeps, told by its meaning. Assumes nothing.
use Rattle.std.proofs.Common.{◌≡◌, ℕ, ◌+◌, ◌<◌, ◌≤◌, min, Bool, true, not, ◌&&◌, List, map, length, get_or, take, ap, ◌∙◌, arith}
use mathlib.Core.Path.{fun_ext}
use Rattle.std.proofs.lemmas.Bool.Decides.{nat_tests}
use Rattle.std.proofs.lemmas.List.{length-take, length-map, get_or-map, get_or-take}
use Rattle.std.specs.List.{list_any}
use Rattle.graph.specs.Counting.{count, any}
use Rattle.graph.specs.Shape.{Shape}
use Rattle.numbers.specs.Sets.{has}
use Rattle.board.specs.Boards.{merged_graph as merged_in}
use Rattle.board.proofs.Boards.{merged_lawful}
use Rattle.session_laws.specs.Base.{SoundBase}
use Rattle.session_laws.specs.State.{Move, listed, standing_graph, move_at, no_move, waits, has_pending}
use Rattle.session_laws.specs.Invariants.{SoundState}
use Rattle.session_laws.proofs.Cores.{far_stands}
use Rattle.session_laws.proofs.Counts.{but, count_less}
use Rattle.session_laws.proofs.Room.{removed_and_standing}
use Rattle.session_laws.proofs.Standing.{standing_lawful}
use Rattle.standing.specs.Standing.{graph_of, is_left, board_of, base_of as base_under}
use Rattle.standing.proofs.Shapes.{base_sound as base_sound_under}
use Rattle.kept.specs.Moves.{moves_in, moves_of, move_of}
use Rattle.kept.specs.Removed.{groups_in}
use Rattle.kept.specs.Sound.{SoundKept}
use Rattle.kept.specs.Kept.{base_of, state_of}
use Rattle.kept.specs.declared.kept.Kept.{Kept}
use Rattle.kept.specs.declared.moves.Move.{Move as Row}
use Rattle.kept.proofs.Chains.{any_meant}
use Rattle.kept.proofs.Told.{told_kept}

pub sound_of : (k : Kept) → SoundKept k.standing k.removed k.moves k.temporaries
sound_of k = told_kept _ _ _ _ k.sound

pub base_sound : (k : Kept) → SoundBase (base_of k)
unfolding base_of
base_sound k = base_sound_under k.standing

pub state_sound : (k : Kept) → SoundState (base_of k) (state_of k)
unfolding base_of state_of
state_sound k = (sound_of k).state

stands_so : (m l r : Bool) → l ≡ (m && not r) → (m && l) ≡ (m && not r)
stands_so m l r h = grind (arith, nat_tests)

joined_so : (j mu mv lu lv ru rv : Bool) → lu ≡ (mu && not ru) → lv ≡ (mv && not rv) → (j ≡ true → mu ≡ true) → (j ≡ true → mv ≡ true) →
    (j && (lu && lv)) ≡ (j && (not ru && not rv))
joined_so j mu mv lu lv ru rv hu hv ju jv = grind (arith, nat_tests)

shape_same : (n : ℕ) (s s' : ℕ → Bool) (j j' : ℕ → ℕ → Bool) → s ≡ s' → j ≡ j' →
    ◌≡◌ {A = Shape} (record { size = n; stands = s; joined = j }) (record { size = n; stands = s'; joined = j' })
shape_same n s s' j j' e f = λ i. record { size = n; stands = e i; joined = f i }

-- the standing graph in its rows is the one that the rules speak of
pub graph_is : (k : Kept) → graph_of k.standing ≡ standing_graph (base_of k) (state_of k)
unfolding graph_of base_of state_of base_under board_of is_left
graph_is k =
    let b = k.standing.board in
    let left : (v : ℕ) → has k.standing.left v ≡ ((merged_in b).stands v && not (listed (groups_in k.removed) v)) = (sound_of k).left in
    shape_same _ _ _ _ _
    (fun_ext (λ v. stands_so ((merged_in b).stands v) (has k.standing.left v) (listed (groups_in k.removed) v) (left v)))
    (fun_ext (λ u. fun_ext (λ v.
    joined_so ((merged_in b).joined u v) ((merged_in b).stands u) ((merged_in b).stands v) (has k.standing.left u) (has k.standing.left v)
    (listed (groups_in k.removed) u) (listed (groups_in k.removed) v) (left u) (left v)
    (λ j. (merged_lawful b).standing u v j) (λ j. far_stands (merged_in b) (merged_lawful b) u v j))))

-- there is room for one more while a vertex stands
pub some_room : (k : Kept) (v : ℕ) → (standing_graph (base_of k) (state_of k)).stands v ≡ true → length (groups_in k.removed) < 512
unfolding state_of
some_room k v h =
    let b = base_of k in
    let s = state_of k in
    let l = standing_lawful b (base_sound k) s in
    let few : length s.removed + count (standing_graph b s).stands b.graph.size ≤ b.graph.size = removed_and_standing b (base_sound k) s (state_sound k) in
    let one : count (but (standing_graph b s).stands v) b.graph.size + 1 ≤ count (standing_graph b s).stands b.graph.size =
    count_less (standing_graph b s).stands v b.graph.size (l.inside v h) h in
    let most : b.graph.size ≤ 512 = (base_sound k).lawful.most in
    omega arith

-- what the moves in a row are asked for
pub pending_is : (k : Kept) (v : ℕ) (rows : List Row) → map move_of rows ≡ moves_in k.moves →
    list_any (λ m. waits (state_of k).table v (move_of m)) rows ≡ has_pending (state_of k) v
unfolding state_of
pending_is k v rows e =
    any_meant move_of (waits (state_of k).table v) rows no_move ∙
    ap (λ (moves : List Move). any (λ i. waits (state_of k).table v (get_or moves i no_move)) (length moves)) e

-- the first n of a row of moves, and what is read of them
pub moves_of_long : (rows : List Row) (n : ℕ) → n ≤ length rows → length (moves_of rows n) ≡ n
unfolding moves_of
moves_of_long rows n h =
    let a : length (map move_of (take n rows)) ≡ length (take n rows) = length-map (take n rows) move_of in
    let b : length (take n rows) ≡ min n (length rows) = length-take n rows in
    omega arith

pub move_in : (rows : List Row) (n m : ℕ) (d : Row) → m < n → n ≤ length rows → get_or (moves_of rows n) m no_move ≡ move_of (get_or rows m d)
unfolding moves_of
move_in rows n m d l h =
    let b : length (take n rows) ≡ min n (length rows) = length-take n rows in
    get_or-map move_of (take n rows) m d no_move (omega arith) ∙ ap move_of (get_or-take n rows m d l)

pub move_is : (k : Kept) (m : ℕ) (d : Row) → m < k.moves.many → move_at (state_of k) m ≡ move_of (get_or k.moves.moves m d)
unfolding state_of moves_in moves_of
move_is k m d l =
    let whole : length k.moves.moves ≡ 128 = k.moves.whole in
    let few : k.moves.many ≤ 128 = k.moves.few in
    move_in k.moves.moves k.moves.many m d l (omega arith)

pub stands_small : (k : Kept) (v : ℕ) → (standing_graph (base_of k) (state_of k)).stands v ≡ true → v < 512
stands_small k v h =
    let low : v < (base_of k).graph.size = (standing_lawful (base_of k) (base_sound k) (state_of k)).inside v h in
    let most : (base_of k).graph.size ≤ 512 = (base_sound k).lawful.most in
    omega arith
