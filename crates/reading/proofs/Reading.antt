-- Sets and rows that grow as a graph is read, and the rows of a graph that is read. Assumes nothing.
use Rattle.std.proofs.Common.{◌≡◌, ℕ, ◌+◌, ◌<◌, ◌≤◌, Bool, true, false, ◌&&◌, ◌||◌, eqb, ltb, List, [], ◌∷◌, length, get_or, set, replicate, sym, ap, ◌∙◌, inl, inr, arith, length-set}
use mathlib.Core.Path.{fun_ext}
use Rattle.std.proofs.lemmas.Bool.{cases_lt, cases_Bool, lt-ltb}
use Rattle.std.proofs.lemmas.Bool.Decides.{nat_tests}
use Rattle.std.proofs.lemmas.List.{length-replicate, get_or-replicate}
use Rattle.graph.specs.Shape.{Shape, Lawful}
use Rattle.numbers.specs.Sets.{has}
use Rattle.numbers.specs.declared.number_set.NumberSet.{NumberSet}
use Rattle.board.specs.Rows.{row_has}
use Rattle.board.specs.Sound.{snapshot}
use Rattle.board.proofs.Lookup.{row_at, row_past, row_set_same, row_set_other}

-- a set holds those below n that pass
abbrev pub ReadBelow : (ℕ → Bool) → (ℕ → Bool) → ℕ → Type 0
ReadBelow passes set n = (v : ℕ) → set v ≡ (passes v && ltb v n)

read_one : (s p : Bool) (v n : ℕ) (q : Bool) → q ≡ true → (v ≡ n → p ≡ true) → s ≡ (p && ltb v n) → (s || (q && eqb v n)) ≡ (p && ltb v (n + 1))
read_one s p v n q eq here so_far = grind (arith, nat_tests)

pub read_then : (passes set set' : ℕ → Bool) (n : ℕ) → n < 512 → passes n ≡ true → ReadBelow passes set n →
    ((v : ℕ) → set' v ≡ (set v || (ltb n 512 && eqb v n))) → ReadBelow passes set' (n + 1)
read_then passes set set' n small pass so_far is v =
    is v ∙ read_one (set v) (passes v) v n (ltb n 512) (lt-ltb n 512 small) (λ e. ap passes e ∙ pass) (so_far v)

pass_one : (s p : Bool) (v n : ℕ) → (v ≡ n → p ≡ false) → s ≡ (p && ltb v n) → s ≡ (p && ltb v (n + 1))
pass_one s p v n here so_far = grind (arith, nat_tests)

pub read_else : (passes set : ℕ → Bool) (n : ℕ) → passes n ≡ false → ReadBelow passes set n → ReadBelow passes set (n + 1)
read_else passes set n fail so_far v = pass_one (set v) (passes v) v n (λ e. ap passes e ∙ fail) (so_far v)

read_none : (s p : Bool) (v : ℕ) → s ≡ false → s ≡ (p && ltb v 0)
read_none s p v h = grind (arith, nat_tests)

pub read_start : (passes set : ℕ → Bool) → ((v : ℕ) → set v ≡ false) → ReadBelow passes set 0
read_start passes set h v = read_none (set v) (passes v) v (h v)

all_read : (s p : Bool) (v n m : ℕ) → n ≤ m → (p ≡ true → v < n) → s ≡ (p && ltb v m) → s ≡ p
all_read s p v n m l inside so_far = grind (arith, nat_tests)

pub read_all : (passes set : ℕ → Bool) (n m : ℕ) → n ≤ m → ((v : ℕ) → passes v ≡ true → v < n) → ReadBelow passes set m → (v : ℕ) → set v ≡ passes v
read_all passes set n m l inside so_far v = all_read (set v) (passes v) v n m l (inside v) (so_far v)

-- rows below u are those of the graph, the others are empty
abbrev pub RowsBelow : (ℕ → ℕ → Bool) → List NumberSet → ℕ → Type 0
RowsBelow joined rows u =
    (length rows ≡ 512) × ((w v : ℕ) → w < u → row_has rows w v ≡ joined w v) × ((w v : ℕ) → u ≤ w → row_has rows w v ≡ false)

module _ (joined : ℕ → ℕ → Bool) (rows : List NumberSet) (u : ℕ) (low : u < 512) (so_far : RowsBelow joined rows u) where
  pub rows_then : (row : NumberSet) → ((v : ℕ) → has row v ≡ joined u v) → RowsBelow joined (set rows u row) (u + 1)
  rows_then row is =
      let long : length rows ≡ 512 = so_far.0 in (
        length-set rows u row ∙ long,
        λ w v l. elim (cases_lt w u) [
          | inl below ↦ row_set_other rows u w v row (λ e. omega arith) ∙ so_far.1 w v below
          | inr above ↦
              let e : w ≡ u = omega arith in
              let now : row_has (set rows u row) u v ≡ joined u v = row_set_same rows u v row (omega arith) ∙ is v in
              rw e now
        ],
        λ w v l. row_set_other rows u w v row (λ e. omega arith) ∙ so_far.2 w v (omega arith),
      )

  pub rows_else : ((v : ℕ) → joined u v ≡ false) → RowsBelow joined rows (u + 1)
  rows_else none = (
    so_far.0,
    λ w v l. elim (cases_lt w u) [
      | inl below ↦ so_far.1 w v below
      | inr above ↦
          let e : w ≡ u = omega arith in
          let now : row_has rows u v ≡ joined u v = so_far.2 u v (omega arith) ∙ sym (none v) in
          rw e now
    ],
    λ w v l. so_far.2 w v (omega arith),
  )

pub rows_at : (joined : ℕ → ℕ → Bool) (rows rows' : List NumberSet) (u : ℕ) → rows ≡ rows' → RowsBelow joined rows' u → RowsBelow joined rows u
rows_at joined rows rows' u e h = rw e h

pub rows_start : (joined : ℕ → ℕ → Bool) (row : NumberSet) → ((v : ℕ) → has row v ≡ false) → RowsBelow joined (replicate 512 row) 0
rows_start joined row none = (
  length-replicate 512 row,
  λ w v l. absurd (omega arith),
  λ w v l. elim (cases_lt w 512) [
    | inl lo ↦
        let long : w < length (replicate 512 row) = rw (length-replicate 512 row) lo in
        row_at (replicate 512 row) w v row long ∙ (ap (λ (s : NumberSet). has s v) (get_or-replicate 512 w row row lo) ∙ none v)
    | inr hi ↦
        let long : length (replicate 512 row) ≤ w = rw (length-replicate 512 row) hi in
        row_past (replicate 512 row) w v long
  ],
)

pub not_standing : (g : Shape) → Lawful g → (u v : ℕ) → g.stands u ≡ false → g.joined u v ≡ false
not_standing g l u v h = elim (cases_Bool (g.joined u v)) [
  | inl j ↦ absurd (both (g.stands u) h (l.standing u v j))
  | inr j ↦ j
]
  where
    both : (b : Bool) → b ≡ false → b ≡ true → ⊥
    both b e f = grind (arith, nat_tests)

pub rows_all : (g : Shape) → Lawful g → (rows : List NumberSet) (m : ℕ) → 512 ≤ m → RowsBelow g.joined rows m → (u v : ℕ) → row_has rows u v ≡ g.joined u v
rows_all g l rows m end h u v = elim (cases_lt u m) [
  | inl lo ↦ h.1 u v lo
  | inr hi ↦
      let out : g.stands u ≡ false = elim (cases_Bool (g.stands u)) [
        | inl s ↦ absurd (
            let a : u < g.size = l.inside u s in
            let b : g.size ≤ 512 = l.most in
            omega arith)
        | inr s ↦ s
      ] in
      h.2 u v hi ∙ sym (not_standing g l u v out)
]

pub snapshot_is : (g : Shape) (n : ℕ) (vertices : NumberSet) (rows : List NumberSet) → n ≡ g.size → ((v : ℕ) → has vertices v ≡ g.stands v) →
    ((u v : ℕ) → row_has rows u v ≡ g.joined u v) → snapshot n vertices rows ≡ g
snapshot_is g n vertices rows en ev ej = λ i. record { size = en i; stands = fun_ext ev i; joined = fun_ext (λ u. fun_ext (λ v. ej u v)) i }

-- rows are those of a graph where each of the 512 is
pub rows_are : (g : Shape) → Lawful g → (rows : List NumberSet) → length rows ≡ 512 →
    ((u : ℕ) (d : NumberSet) → u < 512 → (v : ℕ) → has (get_or rows u d) v ≡ g.joined u v) → (u v : ℕ) → row_has rows u v ≡ g.joined u v
rows_are g l [] long each u v = absurd (let none : ◌≡◌ {A = ℕ} 0 512 = long in omega arith)
rows_are g l (first ∷ rest) long each u v =
    let rows : List NumberSet = first ∷ rest in elim (cases_lt u 512) [
      | inl lo ↦ row_at rows u v first (omega arith) ∙ each u first lo v
      | inr hi ↦
          let out : g.stands u ≡ false = elim (cases_Bool (g.stands u)) [
            | inl s ↦ absurd (
                let a : u < g.size = l.inside u s in
                let b : g.size ≤ 512 = l.most in
                omega arith)
            | inr s ↦ s
          ] in
          row_past rows u v (omega arith) ∙ sym (not_standing g l u v out)
    ]
