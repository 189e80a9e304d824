-- The word that stands for a pair, and the slots where it is looked for. Assumes nothing.
use Rattle.std.specs.Prelude.{ℕ, ◌+◌, ◌-◌, ◌*◌, ◌/◌, ◌%◌, ◌^◌, min, max, cond, nat_lt}

-- never 0, which stands for an empty slot
abbrev pub key : ℕ → ℕ → ℕ
key u v = max u v * 512 + min u v

-- the first slot for a key: the product spreads keys that lie close together, and its upper digits depend on all of the key
unfoldable pub start : ℕ → ℕ → ℕ
start slots k = (k * 11400714819323198485 % 2 ^ 64) / 2 ^ 32 % slots

-- the slot d steps further on, where the first follows the last
abbrev pub place : ℕ → ℕ → ℕ → ℕ
place slots k d = cond (nat_lt d (slots - start slots k)) (start slots k + d) (d - (slots - start slots k))
