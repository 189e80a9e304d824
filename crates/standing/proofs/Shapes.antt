-- What every standing graph keeps, told by its meaning. Assumes nothing.
use Rattle.std.proofs.Common.{◌≡◌, ℕ, ◌+◌, ◌<◌, ◌≤◌, Bool, true, false, ◌&&◌}
use Rattle.std.proofs.lemmas.Bool.{and_from, and_parts}
use Rattle.graph.specs.Counting.{count}
use Rattle.graph.specs.Shape.{Lawful}
use Rattle.graph.proofs.Keeping.{keeping_view}
use Rattle.graph.proofs.Merging.{same_test}
use Rattle.numbers.specs.Sets.{has}
use Rattle.numbers.specs.Counting.{count as set_count}
use Rattle.board.specs.Boards.{merged_graph}
use Rattle.board.proofs.Boards.{merged_lawful}
use Rattle.board.proofs.Bridging.{set_size, none_joined}
use Rattle.session_laws.specs.Base.{SoundBase}
use Rattle.standing.specs.Standing.{base_of, board_of, graph_of, is_left, loose_in}
use Rattle.standing.specs.declared.standing.Standing.{Standing}
use Rattle.standing.proofs.Told.{told_standing}

pub base_sound : (s : Standing) → SoundBase (base_of s)
unfolding base_of
base_sound s = (told_standing _ _ _ _ s.sound).base

pub left_stands : (s : Standing) (v : ℕ) → is_left s v ≡ true → (merged_graph (board_of s)).stands v ≡ true
unfolding is_left board_of
left_stands s v h = (told_standing _ _ _ _ s.sound).inside v h

pub graph_lawful : (s : Standing) → Lawful (graph_of s)
unfolding graph_of
graph_lawful s = (keeping_view (has s.left)).keeps_laws (merged_graph s.board) (merged_lawful s.board)

pub graph_stands : (s : Standing) (v : ℕ) → is_left s v ≡ (graph_of s).stands v
unfolding graph_of is_left
graph_stands s v = same_test _ _
    (λ h. and_from _ _ ((told_standing _ _ _ _ s.sound).inside v h) h)
    (λ h. (and_parts ((merged_graph s.board).stands v) (has s.left v) h).1)

pub bank_small : (s : Standing) → (base_of s).first + (base_of s).registers ≤ 32
bank_small s = (base_sound s).low

-- how many are in a set that is part of a row
pub row_size : (s : Standing) (u : ℕ) (p q : ℕ → Bool) → ((v : ℕ) → p v ≡ ((graph_of s).joined u v && q v)) →
    set_count p 512 ≡ count (λ v. (graph_of s).joined u v && q v) (graph_of s).size
row_size s u p q same = set_size p (λ v. (graph_of s).joined u v && q v) (graph_of s).size (graph_lawful s).most same
    (λ v h. let e : (graph_of s).joined u v ≡ false = none_joined (graph_of s) (graph_lawful s) u v h in rw e)

-- loose vertices stand, so they are below the size
pub loose_inside : (s : Standing) (v : ℕ) → loose_in s v ≡ true → v < (graph_of s).size
loose_inside s v h = (graph_lawful s).inside v (and_parts ((graph_of s).stands v) _ h).0
