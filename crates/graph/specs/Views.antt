-- Four ways to look at a shape. Each gives a shape again, so they pile up. Assumes nothing.
use Rattle.std.specs.Prelude.{◌≡◌, ℕ, Bool, true, false, not, ◌&&◌, ◌||◌, Some, None, Option, Ok, Err, Result, ◌==◌}
use Rattle.graph.specs.Counting.{any}
use Rattle.graph.specs.Shape.{Shape, Meaning, Lawful}
use Rattle.graph.specs.Joining.{with_pair}
use Rattle.graph.specs.declared.pair.Pair.{Pair}
use Rattle.graph.specs.declared.pair.Pair.TheVariants.{Present, Fresh}
use Rattle.graph.specs.declared.refusal.Refusal.{Refusal}
use Rattle.classes.specs.declared.class.Class.{Class}
use Rattle.classes.specs.declared.class.Class.TheVariants.{Zero, One}

-- the meaning of a view f over a graph: free is that of the graph below
abbrev pub over : (Shape → Shape) → Meaning → Meaning
over f m = record { shape = f m.shape; free = m.free }

-- What joining a pair in a view comes to for the graph below: only a pair that is new in the view goes down.
abbrev pub HandedDown : Result Pair Refusal → Type 0 → Type 0 → Type 0
HandedDown (Err r) unchanged joined = unchanged
HandedDown (Ok Present) unchanged joined = unchanged
HandedDown (Ok Fresh) unchanged joined = joined

abbrev pub same_class : Class → Class → Bool
same_class Zero Zero = true
same_class Zero One = false
same_class One Zero = false
same_class One One = true

-- whether a vertex of this class, or of neither, is of the chosen one
abbrev pub is_chosen : Class → Option Class → Bool
is_chosen chosen None = false
is_chosen chosen (Some c) = same_class chosen c

-- the vertices that are kept, and the pairs of two such
abbrev pub keeping : (ℕ → Bool) → Shape → Shape
keeping kept s = record {
  size = s.size;
  stands = λ v. s.stands v && kept v;
  joined = λ u v. s.joined u v && (kept u && kept v);
}

-- only the vertices of the chosen class keep standing
abbrev pub class_view : (ℕ → Option Class) → Class → Shape → Shape
class_view classes chosen = keeping (λ v. is_chosen chosen (classes v))

-- the vertices that are gone are hidden
abbrev pub removed_view : (ℕ → Bool) → Shape → Shape
removed_view gone = keeping (λ v. not (gone v))

-- fixed vertices that stand are joined to one another
abbrev pub clique_view : (ℕ → Bool) → Shape → Shape
clique_view fixed s = record {
  size = s.size;
  stands = s.stands;
  joined = λ u v.
      s.joined u v || (((fixed u && s.stands u) && (fixed v && s.stands v)) && not (u == v));
}

-- whether some member of the group u is joined to some member of the group v; members are the numbers that the table maps to it
abbrev pub groups_joined : (ℕ → ℕ) → Shape → ℕ → ℕ → Bool
groups_joined table s u v =
    any (λ a. let joined_to = any (λ b. (table b == v) && s.joined a b) s.size in (table a == u) && joined_to) s.size

-- a vertex that the table maps to itself
abbrev pub names_group : (ℕ → ℕ) → Shape → ℕ → Bool
names_group table s v = s.stands v && table v == v

-- each group is one vertex, under the name that the table maps its members to
abbrev pub merged_view : (ℕ → ℕ) → Shape → Shape
merged_view table s = record {
  size = s.size;
  stands = names_group table s;
  joined = λ u v.
      let some-joined = groups_joined table s u v in
      ((names_group table s u && names_group table s v) && not (u == v)) && some-joined;
}

-- What every view is: it hides vertices and never shows fewer pairs among those that it leaves standing,
-- so a pair that is joined below is joined in it, and a pair that is added below is added in it.
pub record View (f : Shape → Shape) : Type 0 where
  pub keeps_size : (s : Shape) → (f s).size ≡ s.size
  pub hides : (s : Shape) (v : ℕ) → (f s).stands v ≡ true → s.stands v ≡ true
  pub shows : (s : Shape) (u v : ℕ) → (f s).stands u ≡ true → (f s).stands v ≡ true → (u == v) ≡ false → Lawful s →
      s.joined u v ≡ true → (f s).joined u v ≡ true
  pub adds : (s : Shape) (u v : ℕ) → (f s).stands u ≡ true → (f s).stands v ≡ true → (u == v) ≡ false → Lawful s →
      f (with_pair s u v) ≡ with_pair (f s) u v
  pub keeps_laws : (s : Shape) → Lawful s → Lawful (f s)
