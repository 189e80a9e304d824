-- Joining a pair: what is answered, and what the graph means afterwards. Assumes nothing.
use Rattle.std.specs.Prelude.{ℕ, ◌-◌, Bool, cond, ◌&&◌, ◌||◌, Ok, Err, Result, ◌==◌}
use Rattle.graph.specs.Shape.{Shape, Meaning}
use Rattle.graph.specs.Judging.{judged}
use Rattle.graph.specs.declared.pair.Pair.{Pair}
use Rattle.graph.specs.declared.pair.Pair.TheVariants.{Present, Fresh}
use Rattle.graph.specs.declared.refusal.Refusal.{Refusal}
use Rattle.graph.specs.declared.refusal.Refusal.TheVariants.{Full}

-- What becomes of a pair that is to be joined.
pub data Verdict : Type 0 where
  refused : Refusal → Verdict
  -- joined before: granted, and nothing changes
  present : Verdict
  added : Verdict

-- what a shape says of u and v
abbrev pub judge_of : Shape → ℕ → ℕ → Result Pair Refusal
judge_of s u v = judged s.size u v (s.stands u && s.stands v) (s.joined u v)

-- a fresh pair needs room
abbrev pub settled : Result Pair Refusal → ℕ → Verdict
settled (Err r) free = refused r
settled (Ok Present) free = present
settled (Ok Fresh) free = cond (free == 0) (refused Full) added

abbrev pub verdict : Meaning → ℕ → ℕ → Verdict
verdict m u v = settled (judge_of m.shape u v) m.free

-- the same two numbers, in either order
abbrev pub same_pair : ℕ → ℕ → ℕ → ℕ → Bool
same_pair u v a b = (a == u && b == v) || (a == v && b == u)

-- the shape in which u and v are joined too
abbrev pub with_pair : Shape → ℕ → ℕ → Shape
with_pair s u v = record {
  size = s.size;
  stands = s.stands;
  joined = λ a b. s.joined a b || same_pair u v a b;
}

abbrev pub answer_of : Verdict → Result (Unit {0}) Refusal
answer_of (refused r) = Err r
answer_of present = Ok tt
answer_of added = Ok tt

abbrev pub meaning_of : Verdict → Meaning → ℕ → ℕ → Meaning
meaning_of (refused r) m u v = m
meaning_of present m u v = m
meaning_of added m u v = record { shape = with_pair m.shape u v; free = m.free - 1 }

-- what join answers
abbrev pub join_answer : Meaning → ℕ → ℕ → Result (Unit {0}) Refusal
join_answer m u v = answer_of (verdict m u v)

-- what the graph means after join
abbrev pub join_meaning : Meaning → ℕ → ℕ → Meaning
join_meaning m u v = meaning_of (verdict m u v) m u v
