use Rattle.std.proofs.Common.{List, ℕ, ◌≡◌, take, sym, ◌∙◌, rules}
use Rattle.std.proofs.iter.runs.Made.{chains}
use Rattle.std.specs.List.{count_by}
use Rattle.code.specs.Codes.{rows_of, is_move}
use Rattle.code.specs.Rows.{fields}
use Rattle.code.specs.declared.row.Row.{Row}
use Rattle.code.proofs.Asking.{moves_counted}
use Rattle.code.proofs.body.Code.moves.Goals as goal

pub returns : goal.returns
unfolding rows_of
returns c =
    let counted : c.count.result ≡ count_by (λ (row : Row (List ℕ)). is_move (fields row)) (take c.args.self.now.len c.args.self.now.rows) =
    search (rules, chains) in
    counted ∙ sym (moves_counted _)
