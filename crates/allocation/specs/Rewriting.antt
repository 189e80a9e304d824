-- Rows in which some numbers have gone to memory slots: loads before them, stores behind them. Assumes nothing.
use Rattle.std.specs.Prelude.{ℕ, ◌+◌, ◌-◌, Bool, false, cond, List, [], ◌∷◌, ◌++◌, map, length, is_some, Some, None, Option, ◌==◌, nat_lt}
use Rattle.std.specs.List.{slice_get}
use Rattle.code.specs.Codes.{is_move}
use Rattle.code.specs.Rows.{Fields}
use Rattle.allocation.specs.Pieces.{flat, laid_out}

abbrev pub load : ℕ → ℕ → Fields
load to slot = record { kind = 8; destination = Some to; first = None; second = None; target = None; constant = None; slot = Some slot }

abbrev pub store : ℕ → ℕ → Fields
store from slot = record { kind = 9; destination = None; first = Some from; second = None; target = None; constant = None; slot = Some slot }

-- What a row becomes. A temporary is a new number that holds a value for this row only; made has, for each new temporary,
-- the value that it stands for.
pub record Piece : Type 0 where
  pub rows : List Fields
  pub made : List ℕ

-- the slot of the number in a field
abbrev pub slot_in : (ℕ → Option ℕ) → Option ℕ → Option ℕ
slot_in slot None = None
slot_in slot (Some v) = slot v

-- whether both are there and the same
abbrev pub same_slot : Option ℕ → Option ℕ → Bool
same_slot None t = false
same_slot (Some s) None = false
same_slot (Some s) (Some t) = s == t

-- a move to `to` from `from`, by the slots of the two: within one slot it vanishes, from a slot it becomes a load, to a slot a store,
-- between two slots a load and a store of one new temporary
abbrev pub moved : Fields → ℕ → ℕ → ℕ → Option ℕ → Option ℕ → Piece
moved f next to from None None = record { rows = f ∷ []; made = [] }
moved f next to from None (Some s) = record { rows = load to s ∷ []; made = [] }
moved f next to from (Some t) None = record { rows = store from t ∷ []; made = [] }
moved f next to from (Some t) (Some s) =
    cond (s == t) (record { rows = []; made = [] }) (record { rows = load next s ∷ store next t ∷ []; made = from ∷ [] })

-- A field of a row: what it names now, the loads or stores for that, and the value that a new temporary stands for.
pub record Place : Type 0 where
  pub named : Option ℕ
  pub rows : List Fields
  pub made : List ℕ

abbrev pub as_it_was : Option ℕ → Place
as_it_was field = record { named = field; rows = []; made = [] }

-- a source in a slot is loaded into the temporary `next`
abbrev pub loaded : ℕ → Option ℕ → Option ℕ → Place
loaded next None s = as_it_was None
loaded next (Some v) None = as_it_was (Some v)
loaded next (Some v) (Some s) = record { named = Some next; rows = load next s ∷ []; made = v ∷ [] }

-- a second source that lies in the slot of the first shares its temporary
abbrev pub second_loaded : Place → Bool → ℕ → Option ℕ → Option ℕ → Place
second_loaded one shared next field s =
    cond shared (record { named = one.named; rows = []; made = [] }) (loaded next field s)

-- a destination in a slot is a temporary that is stored
abbrev pub stored : ℕ → Option ℕ → Option ℕ → Place
stored next None s = as_it_was None
stored next (Some v) None = as_it_was (Some v)
stored next (Some v) (Some s) = record { named = Some next; rows = store next s ∷ []; made = v ∷ [] }

-- the row with these numbers in its fields
abbrev pub naming : Fields → Option ℕ → Option ℕ → Option ℕ → Fields
naming f destination first second = record {
  kind = f.kind;
  destination = destination;
  first = first;
  second = second;
  target = f.target;
  constant = f.constant;
  slot = f.slot;
}

-- the three fields put together: loads, the row, the store
abbrev pub around : Fields → Place → Place → Place → Piece
around f one two to = record {
  rows = one.rows ++ (two.rows ++ (naming f to.named one.named two.named ∷ to.rows));
  made = one.made ++ (two.made ++ to.made);
}

-- any row but a move: temporaries from `next` on for the first source, the second, the destination
abbrev pub served : (ℕ → Option ℕ) → ℕ → Fields → Piece
served slot next f =
    let one = loaded next f.first (slot_in slot f.first) in
    let shared = same_slot (slot_in slot f.first) (slot_in slot f.second) in
    let two = second_loaded one shared (next + length one.made) f.second (slot_in slot f.second) in
    let to = stored (next + length one.made + length two.made) f.destination (slot_in slot f.destination) in
    around f one two to

-- the ends of a move
abbrev pub moved_between : (ℕ → Option ℕ) → ℕ → Fields → Option ℕ → Option ℕ → Piece
moved_between slot next f None from = record { rows = f ∷ []; made = [] }
moved_between slot next f (Some to) None = record { rows = f ∷ []; made = [] }
moved_between slot next f (Some to) (Some from) = moved f next to from (slot to) (slot from)

-- what one row becomes, with new temporaries from `next` on; slot tells which numbers have gone to which slot
unfoldable pub piece_of : (ℕ → Option ℕ) → ℕ → Fields → Piece
piece_of slot next f = cond (is_move f) (moved_between slot next f f.destination f.first) (served slot next f)

-- all rows in turn, each with the temporaries behind those of the rows before it
abbrev pub pieces : (ℕ → Option ℕ) → ℕ → List Fields → List Piece
pieces slot next [] = []
pieces slot next (f ∷ fs) = piece_of slot next f ∷ pieces slot (next + length (piece_of slot next f).made) fs

-- the rewritten code
unfoldable pub rewritten : (ℕ → Option ℕ) → ℕ → List Fields → List Fields
rewritten slot next rows = laid_out (map (λ p. p.rows) (pieces slot next rows))

-- the values that the new temporaries stand for, in the order of their numbers
unfoldable pub all_made : (ℕ → Option ℕ) → ℕ → List Fields → List ℕ
all_made slot next rows = flat (map (λ p. p.made) (pieces slot next rows))

abbrev pub known_of : {A : Type 0} → (ℕ → Option A) → Option ℕ → Option A
known_of known None = None
known_of known (Some w) = known w

-- something known of each number, after numbers went to slots and temporaries were made from `next` on: it is lost for what has a
-- slot, and a temporary has what its value had
unfoldable pub carried : {A : Type 0} → (ℕ → Option ℕ) → ℕ → List ℕ → (ℕ → Option A) → ℕ → Option A
carried slot next made known v =
    cond (nat_lt v next) (cond (is_some (slot v)) None (known v)) (known_of known (slice_get made (v - next)))
