-- What a store of all n vertices means, whatever way it keeps its pairs. Assumes nothing.
use Rattle.std.specs.Prelude.{◌≡◌, ℕ, zero, suc, ◌+◌, Bool, false, not, ◌&&◌, Ok, Err, Result, ◌==◌, nat_lt}
use Rattle.graph.specs.Counting.{count}
use Rattle.graph.specs.Shape.{Shape, Meaning}
use Rattle.graph.specs.declared.opening.OpeningRefusal.{OpeningRefusal}

-- the sum of f over the numbers below n
abbrev pub total : (ℕ → ℕ) → ℕ → ℕ
total f zero = 0
total f (suc n) = total f n + f n

-- how many pairs of different vertices are joined, and how many are not: each pair counts at the higher of the two
abbrev pub joined_pairs : Shape → ℕ
joined_pairs s = total (λ u. count (s.joined u) u) s.size

abbrev pub open_pairs : Shape → ℕ
open_pairs s = total (λ u. count (λ v. not (s.joined u v)) u) s.size

-- n vertices that all stand; two different ones are joined when they are marked
abbrev pub marked_shape : ℕ → (ℕ → ℕ → Bool) → Shape
marked_shape n marked = record {
  size = n;
  stands = λ v. nat_lt v n;
  joined = λ u v. ((nat_lt u n && nat_lt v n) && not (u == v)) && marked u v;
}

-- n vertices that all stand, and no pairs
abbrev pub no_pairs : ℕ → Shape
no_pairs n = record {
  size = n;
  stands = λ v. nat_lt v n;
  joined = λ u v. false;
}

abbrev pub empty_store : ℕ → ℕ → Meaning
empty_store n free = record { shape = no_pairs n; free = free }

-- what a graph means after it was asked for a fresh one: a refusal changes nothing
abbrev pub renewed : Result (Unit {0}) OpeningRefusal → Meaning → Meaning → Meaning
renewed (Ok x) fresh was = fresh
renewed (Err e) fresh was = was

-- What opening answers: a store of which `is` holds, if it was granted; else the refusal.
abbrev pub Opened : {S : Type 0} → (S → Type 0) → Result (Unit {0}) OpeningRefusal → Result S OpeningRefusal → Type 0
Opened is (Ok x) (Ok store) = is store
Opened is (Ok x) (Err e) = ⊥
Opened is (Err k) (Ok store) = ⊥
Opened is (Err k) (Err e) = e ≡ k

-- What a task answers that is run on a new store, if the opening was granted; a refusal is handed on, and the memory is as it was.
abbrev pub Ran : {Out : Type 0} → (Meaning → Out → Type 0) → Meaning → Type 0 → Result (Unit {0}) OpeningRefusal →
    Result Out OpeningRefusal → Type 0
Ran does fresh unchanged (Ok x) (Ok out) = does fresh out
Ran does fresh unchanged (Ok x) (Err e) = ⊥
Ran does fresh unchanged (Err k) (Ok out) = ⊥
Ran does fresh unchanged (Err k) (Err e) = (e ≡ k) × unchanged
