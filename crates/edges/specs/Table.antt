-- What n vertices and a row of slots mean. Assumes nothing.
use Rattle.std.specs.Prelude.{◌≡◌, ℕ, ◌-◌, ◌/◌, ◌≤◌, Bool, false, not, ◌&&◌, ◌||◌, List, length, replicate, Some, None, Option, Result, ◌==◌, nat_eq, nat_le, nat_lt, slice_index}
use Rattle.graph.specs.Counting.{count, any, first}
use Rattle.graph.specs.Opening.{opening}
use Rattle.graph.specs.Shape.{Shape, Meaning}
use Rattle.graph.specs.Stores.{marked_shape, joined_pairs, empty_store}
use Rattle.graph.specs.declared.opening.OpeningRefusal.{OpeningRefusal}
use Rattle.edges.specs.Keys.{key, place}

-- whether k stands in some slot
abbrev pub has_key : List ℕ → ℕ → Bool
has_key words k = any (λ i. nat_eq (slice_index words i) k) (length words)

-- all n vertices stand; a pair is joined when its word stands in some slot
abbrev pub table_shape : ℕ → List ℕ → Shape
table_shape n words = marked_shape n (λ u v. has_key words (key u v))

-- at most half of the slots are used
abbrev pub with_half : ℕ → Shape → Meaning
with_half slots s = record { shape = s; free = slots / 2 - joined_pairs s }

abbrev pub table_meaning : ℕ → List ℕ → Meaning
table_meaning n words = with_half (length words) (table_shape n words)

unfoldable pub pairs_in : ℕ → List ℕ → ℕ
pairs_in n words = joined_pairs (table_shape n words)

-- how many slots are not empty
unfoldable pub filled : List ℕ → ℕ
filled words = count (λ i. not (slice_index words i == 0)) (length words)

-- the word in the slot d steps on from the first for k
abbrev pub probed : List ℕ → ℕ → ℕ → ℕ
probed words k d = slice_index words (place (length words) k d)

-- whether looking for k ends there
abbrev pub stops : List ℕ → ℕ → ℕ → Bool
stops words k d = probed words k d == k || probed words k d == 0

-- after how many steps looking for k ends
abbrev pub landing : List ℕ → ℕ → Option ℕ
landing words k = first (stops words k) 0 (length words)

-- whether k is found
abbrev pub found_at : List ℕ → ℕ → Option ℕ → Bool
found_at words k None = false
found_at words k (Some d) = probed words k d == k

-- the slot where looking for k ends
abbrev pub slot_at : List ℕ → ℕ → Option ℕ → ℕ
slot_at words k None = 0
slot_at words k (Some d) = place (length words) k d

-- a word that stands e steps on has no empty slot before it
abbrev pub no_gap : List ℕ → ℕ → ℕ → ℕ → Bool
no_gap words k e d =
    not (nat_lt d e && (nat_lt e (length words) && (not (k == 0) && (probed words k e == k && probed words k d == 0))))

-- a size that a graph can have, and two slots at least
abbrev pub Fit : ℕ → ℕ → Type 0
Fit n slots = (32 ≤ n) × (n ≤ 512) × (2 ≤ slots)

-- what a check before opening answers
abbrev pub table_opening : ℕ → ℕ → Result (Unit {0}) OpeningRefusal
table_opening n slots = opening n (nat_le 2 slots)

-- what a new table is: its size, its slots, the loan that they are, and what it means
abbrev pub NewTable : {Name : Type 0} → ℕ → List ℕ → Name → ℕ → List ℕ → Name → Type 0
NewTable n memory loan size words name =
    (size ≡ n) × (words ≡ replicate (length memory) 0) × (name ≡ loan) × (table_meaning size words ≡ empty_store n (length memory / 2))

-- whether so many slots are enough, whatever the size
abbrev pub two_slots : ℕ → ℕ → Bool
two_slots slots n = nat_le 2 slots

-- how many pairs a new table has room for, whatever the size
abbrev pub half_of : ℕ → ℕ → ℕ
half_of slots n = slots / 2
