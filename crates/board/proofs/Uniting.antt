-- A board after a merge. Assumes nothing.
use Rattle.std.proofs.Common.{◌≡◌, ℕ, ◌<◌, ◌≤◌, min, max, Bool, true, false, eqb, ltb, List, sym, ap, ◌∙◌, inl, inr, arith}
use mathlib.Core.Path.{fun_ext}
use Rattle.std.proofs.lemmas.Bool.{cases_eq, eq-eqb, ne_eqb, lt-ltb}
use Rattle.graph.specs.Views.{merged_view}
use Rattle.numbers.specs.declared.number_set.NumberSet.{NumberSet}
use Rattle.views.specs.Groups.{group_at, merged_groups}
use Rattle.session_laws.specs.Runs.{united}
use Rattle.session_laws.proofs.Standing.{Name, name_parts}
use Rattle.board.specs.Rows.{row_has, rows_merged}
use Rattle.board.specs.Sound.{SoundBoard}
use Rattle.board.specs.Boards.{opened_graph, table_of, merged_graph, TwoGroups}
use Rattle.board.specs.declared.board.Board.{Board}
use Rattle.board.proofs.Boards.{opened_lawful, rows_merged as rows_are}
use Rattle.board.proofs.Merging.{row_low, row_high, row_other}
use Rattle.board.proofs.Untold.{told_board}

-- merging two names in a table
pub names_united : (table : ℕ → ℕ) (low high : ℕ) → low < high → high < 512 → table low ≡ low → table high ≡ high →
    merged_groups table low high ≡ united table high low
names_united table low high lower inside own-low own-high =
    let a : ltb low 512 ≡ true = lt-ltb low 512 (omega arith) in
    let b : ltb high 512 ≡ true = lt-ltb high 512 inside in
    let most : max low high ≡ high = omega arith in
    let least : min low high ≡ low = omega arith in
    fun_ext (λ w. rw (a, b, own-low, own-high, most, least))

module _ (b : Board) (low high : ℕ) (two : TwoGroups b low high) where
  low_name : Name (table_of b) (opened_graph b) low
  low_name = name_parts (table_of b) (opened_graph b) low two.low_stands

  high_name : Name (table_of b) (opened_graph b) high
  high_name = name_parts (table_of b) (opened_graph b) high two.high_stands

  pub high_inside : high < 512
  high_inside =
      let l : high < (opened_graph b).size = (opened_lawful b).inside high high_name.is_vertex in
      let m : (opened_graph b).size ≤ 512 = (opened_lawful b).most in
      omega arith

  pub table_united : merged_groups (table_of b) low high ≡ united (table_of b) high low
  table_united = names_united (table_of b) low high two.lower high_inside low_name.is_own high_name.is_own

  new_rows : (u v : ℕ) → rows_merged low high (merged_graph b).joined u v ≡ (merged_view (united (table_of b) high low) (opened_graph b)).joined u v
  new_rows u v = elim (cases_eq u high) [
    | inl e ↦
        let is : eqb u high ≡ true = eq-eqb u high e in
        rw is (sym (rw e (row_high (opened_graph b) (opened_lawful b) (table_of b) low high low_name high_name two.lower two.apart v)))
    | inr ne ↦
        let is : eqb u high ≡ false = ne_eqb u high ne in
        elim (cases_eq u low) [
          | inl e ↦
              let is-low : eqb u low ≡ true = eq-eqb u low e in
              rw (is, is-low) (sym (rw e (row_low (opened_graph b) (opened_lawful b) (table_of b) low high low_name high_name two.lower two.apart v)))
          | inr ne-low ↦
              let is-low : eqb u low ≡ false = ne_eqb u low ne-low in
              rw (is, is-low) (sym (row_other (opened_graph b) (opened_lawful b) (table_of b) low high low_name high_name two.lower two.apart u v ne-low ne))
        ]
  ]

  pub united_sound : (rows : List NumberSet) (to : List ℕ) →
      ((u v : ℕ) → row_has rows u v ≡ rows_merged low high (row_has b.rows.sets) u v) → group_at to ≡ united (table_of b) high low →
      SoundBoard b.size b.vertices b.given.sets rows to
  unfolding opened_graph table_of
  united_sound rows to each table = record {
    lawful = (told_board _ _ _ _ _ b.sound).lawful;
    up_to_date = λ u v.
        let same : row_has b.rows.sets ≡ (merged_graph b).joined = fun_ext (λ x. fun_ext (λ y. rows_are b x y)) in
        each u v ∙ (ap (λ (r : ℕ → ℕ → Bool). rows_merged low high r u v) same ∙ (new_rows u v ∙
        sym (ap (λ (t : ℕ → ℕ). (merged_view t (opened_graph b)).joined u v) table)));
  }
