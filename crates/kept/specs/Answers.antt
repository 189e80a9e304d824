-- What the answers of the calls say of their outcomes. Assumes nothing.
use Rattle.std.specs.Prelude.{◌≡◌, ℕ, ◌<◌, List, drop, Ok, Err, Result, slice_index}
use Rattle.session_laws.specs.Calls.{Outcome, refused, noted, together, apart, merged, coloured}
use Rattle.kept.specs.declared.moves.Merge.{Merge}
use Rattle.kept.specs.declared.moves.Merge.TheVariants.{Together, Apart, Merged}
use Rattle.kept.specs.declared.refusal.Refusal.{Refusal}
use Rattle.kept.specs.declared.refusal.Refusal.TheVariants.{Short, NoSuch, NotStanding, Full, NotMet, TooEarly}

-- the number that a refusal is known by
abbrev pub number_of : Refusal → ℕ
number_of Short = 2
number_of NoSuch = 13
number_of NotStanding = 14
number_of Full = 16
number_of NotMet = 17
number_of TooEarly = 18

-- of a call that says nothing but that it was granted
abbrev pub answer : Outcome → Result (Unit {0}) Refusal → Outcome
answer granted (Ok x) = granted
answer granted (Err e) = refused (number_of e)

abbrev pub note_answer : ℕ → ℕ → Result ℕ Refusal → Outcome
note_answer u v (Ok m) = noted m u v
note_answer u v (Err e) = refused (number_of e)

-- u and v are the ends of the move m
abbrev pub merge_says : ℕ → ℕ → ℕ → Merge → Outcome
merge_says m u v Together = together m
merge_says m u v Apart = apart m
merge_says m u v Merged = merged m u v

abbrev pub merge_answer : ℕ → ℕ → ℕ → Result Merge Refusal → Outcome
merge_answer m u v (Ok decided) = merge_says m u v decided
merge_answer m u v (Err e) = refused (number_of e)

-- register is what the table then reads
abbrev pub colour_answer : (ℕ → ℕ) → Result (Unit {0}) Refusal → Outcome
colour_answer register (Ok x) = coloured register
colour_answer register (Err e) = refused (number_of e)

-- what a table reads after colour: the registers in its first 512 bytes, if it was granted; nothing else changes
abbrev pub Filled : (ℕ → ℕ) → List ℕ → List ℕ → Result (Unit {0}) Refusal → Type 0
Filled register before after (Ok x) = ((v : ℕ) → v < 512 → slice_index after v ≡ register v) × (drop 512 after ≡ drop 512 before)
Filled register before after (Err e) = after ≡ before
