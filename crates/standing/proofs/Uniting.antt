-- A standing graph after a merge. Assumes nothing.
use Rattle.std.proofs.Common.{◌≡◌, ℕ, true, not, eqb, ap, ◌∙◌, ap₂, arith}
use Rattle.std.proofs.lemmas.Bool.{eqb-false, not-true}
use Rattle.graph.specs.Shape.{Shape}
use Rattle.graph.specs.Views.{merged_view}
use Rattle.board.specs.Boards.{opened_graph, table_of, merged_graph, TwoGroups}
use Rattle.board.specs.declared.board.Board.{Board}
use Rattle.board.proofs.Boards.{opened_lawful}
use Rattle.session_laws.specs.Base.{SoundBase}
use Rattle.session_laws.specs.Runs.{united}
use Rattle.session_laws.proofs.Counts.{but_from}
use Rattle.session_laws.proofs.Rows.{stands_now}
use Rattle.session_laws.proofs.Standing.{name_parts}
use Rattle.standing.specs.Sound.{base_over}

pub base_same : (old new : Board) (first registers : ℕ) → opened_graph new ≡ opened_graph old → base_over new first registers ≡ base_over old first registers
base_same old new first registers e = ap (λ (g : Shape). record { graph = g; first = first; registers = registers }) e

pub base_kept : (old new : Board) (first registers : ℕ) → opened_graph new ≡ opened_graph old →
    SoundBase (base_over old first registers) → SoundBase (base_over new first registers)
base_kept old new first registers e sb = rw (base_same old new first registers e) sb

pub still_inside : (old new : Board) (low high v : ℕ) → TwoGroups old low high → opened_graph new ≡ opened_graph old →
    table_of new ≡ united (table_of old) high low → (merged_graph old).stands v ≡ true → not (eqb v high) ≡ true → (merged_graph new).stands v ≡ true
still_inside old new low high v two graph table stood ne =
    let now : (merged_view (united (table_of old) high low) (opened_graph old)).stands v ≡ true =
    stands_now (opened_graph old) (opened_lawful old) (table_of old) low high
    (name_parts (table_of old) (opened_graph old) low two.low_stands) (name_parts (table_of old) (opened_graph old) high two.high_stands)
    (λ e. let l = two.lower in omega arith) v
    ∙ but_from (merged_graph old).stands high v stood (eqb-false v high (not-true _ ne)) in
    ap₂ (λ (t : ℕ → ℕ) (g : Shape). (merged_view t g).stands v) table graph ∙ now
