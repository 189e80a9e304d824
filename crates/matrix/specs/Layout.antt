-- Where the bit of a pair lies. Row u holds a bit for each vertex below u, and the rows follow one another. Assumes nothing.
use Rattle.std.specs.Prelude.{ℕ, ◌+◌, ◌-◌, ◌*◌, ◌/◌, ◌%◌, ◌^◌, ◌≤◌, min, max, Bool, List, ◌++◌, drop, replicate, ◌==◌, slice_index}

-- how many pairs n vertices have, which is also where row n begins
unfoldable pub triangle : ℕ → ℕ
triangle n = (n * n - n) / 2

-- the place of the pair u, v among all bits
abbrev pub cell : ℕ → ℕ → ℕ
cell u v = triangle (max u v) + min u v

-- whether the binary digit at k of a byte is set
unfoldable pub bit : ℕ → ℕ → Bool
bit byte k = byte / 2 ^ k % 2 == 1

-- whether the bit at place i is set; the lowest bit of a byte comes first
abbrev pub bit_at : List ℕ → ℕ → Bool
bit_at bytes i = bit (slice_index bytes (i / 8)) (i % 8)

-- how many bytes n vertices need
abbrev pub bytes_for : ℕ → ℕ
bytes_for n = (triangle n + 7) / 8

-- a size that a graph can have, with memory enough
abbrev pub Room : ℕ → ℕ → Type 0
Room n length = (32 ≤ n) × (n ≤ 512) × (bytes_for n ≤ length)

-- the first `count` bytes zero, the others as they were
abbrev pub cleared : ℕ → List ℕ → List ℕ
cleared count bytes = replicate count 0 ++ drop count bytes
