use Rattle.std.proofs.Common.{◌≡◌, ℕ, ◌<◌, Bool, false, cond, length, get_or, ◌∙◌, ap, subst, arith}
use Rattle.board.specs.Boards.{table_of}
use Rattle.standing.specs.Standing.{board_of}
use Rattle.session_laws.specs.State.{Move}
use Rattle.session_laws.specs.Runs.{closed}
use Rattle.kept.specs.Moves.{move_of}
use Rattle.kept.specs.declared.moves.Move.{Move as Row}
use Rattle.kept.proofs.Closing.{ClosedUpTo, closing, one_more, all_done}
use Rattle.kept.proofs.noted.Noted.close_all.Goals as goal

pub loop-m-preserved : goal.loop-m-preserved
loop-m-preserved c =
    let none : Row = record { one = 0; other = 0; pending = false } in
    let m : Move = move_of (get_or c.loop-m.self.moves c.loop-m.m none) in
    let before : length c.args.self.now.moves ≡ 128 = c.args.self.now.whole in
    let now : length c.loop-m.self.moves ≡ 128 = c.loop-m.self.whole in
    let few = c.loop-m.self.few in
    let lb : c.loop-m.m < length c.args.self.now.moves = omega arith in
    let ln : c.loop-m.m < length c.loop-m.self.moves = omega arith in (
      c.loop-m.invariant.0,
      one_more (table_of (board_of c.args.standing.now)) c.args.v _ _ _ _ none lb ln c.loop-m.invariant.1 (closing m.one m.other m.pending c.waits.result ∙ ap (λ (w : Bool). cond w (closed m) m) c.waits.ensures),
    )

pub returns : goal.returns
returns c =
    let table : ℕ → ℕ = table_of (board_of c.args.standing.now) in
    let end : c.loop-m.m ≡ c.args.self.now.many = omega arith in
    all_done table c.args.v c.args.self.now _ c.loop-m.invariant.0
    (subst (λ (m : ℕ). ClosedUpTo table c.args.v c.args.self.now.moves c.loop-m.self.moves m) end c.loop-m.invariant.1)
