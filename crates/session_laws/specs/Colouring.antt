-- Which register each group gets. Assumes nothing.
use Rattle.std.specs.Prelude.{ℕ, Bool, cond, not, ◌&&◌, List, [], ◌∷◌, Some, None, Option, ◌==◌}
use Rattle.graph.specs.Counting.{any, first}
use Rattle.graph.specs.Shape.{Shape}
use Rattle.session_laws.specs.Base.{Base, fixed}
use Rattle.session_laws.specs.State.{State, merged_graph}

-- what the table of a colouring reads where there is no register
abbrev pub none : ℕ
none = 255

abbrev pub or_none : Option ℕ → ℕ
or_none None = none
or_none (Some r) = r

-- whether a vertex joined to v has the register r
abbrev pub taken : Shape → (ℕ → ℕ) → ℕ → ℕ → Bool
taken s registers v r = any (λ w. s.joined v w && registers w == r) s.size

-- the lowest register of the bank that no vertex joined to v has
abbrev pub lowest_free : Base → Shape → (ℕ → ℕ) → ℕ → ℕ
lowest_free b s registers v = or_none (first (λ r. not (taken s registers v r)) b.first b.registers)

-- registers, with r for v
abbrev pub giving : (ℕ → ℕ) → ℕ → ℕ → ℕ → ℕ
giving registers v r w = cond (w == v) r (registers w)

-- gives each of a list of vertices the lowest register that is free for it, one after the other
abbrev pub painted : Base → Shape → (ℕ → ℕ) → List ℕ → ℕ → ℕ
painted b s registers [] = registers
painted b s registers (v ∷ vs) = let r = lowest_free b s registers v in painted b s (giving registers v r) vs

-- before any removed group is coloured, fixed vertices have their own number
abbrev pub own_number : Base → ℕ → ℕ
own_number b v = cond (fixed b v) v none

-- the register of each group, last removed first
unfoldable pub group_register : Base → State → ℕ → ℕ
group_register b s = painted b (merged_graph b s) (own_number b) s.removed

-- the register of each number: that of its group
abbrev pub register_of : Base → State → ℕ → ℕ
register_of b s v = cond (b.graph.stands v) (group_register b s (s.table v)) none
