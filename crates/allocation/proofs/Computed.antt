-- The worked formulas, computed. Assumes nothing.
use Rattle.std.proofs.Common.{◌≡◌, refl}
use Rattle.liveness.specs.Flow.{reads, sets, follows}
use Rattle.liveness.specs.Families.{ahead}
use Rattle.liveness.specs.Joins.{moves}
use Rattle.session_laws.specs.Outcomes.{outcome}
use Rattle.session_laws.specs.Runs.{left_by}
use Rattle.session_laws.specs.Tests.{briggs, george}
use Rattle.session_laws.specs.Colouring.{group_register}
use Rattle.formula.specs.Worked.{square}
use Rattle.allocation.specs.Pieces.{place_of, laid_out}
use Rattle.allocation.specs.Finishing.{final_rows, code_bytes}
use Rattle.allocation.specs.Rewriting.{piece_of, rewritten, all_made, carried}
use Rattle.allocation.specs.Interference.{live_before, live_after, row_edges, edges_of}
use Rattle.allocation.specs.Driving.{to_simplify, to_merge, to_freeze, to_push, next_call, driven_out}
use Rattle.allocation.specs.Costs.{uses, cost, by_cost}
use Rattle.allocation.specs.Sessions.{notes, marks, preparing, run_of, stuck, spilled, slot_from}
use Rattle.allocation.specs.Rounds.{next_stage, turn, first_stage, allocation, done, refused}
use Rattle.allocation.specs.Worked.{Worked, roomy, cheapest, square_rows, square_code, sum}

square_done : allocation cheapest roomy square ≡ done (record { rounds = 1; slots = 0; moves = 1; kept = 0; steps = 3; rows = square_rows; code = square_code })
unfolding reads sets follows ahead moves outcome left_by briggs george group_register place_of laid_out final_rows code_bytes piece_of rewritten all_made carried live_before live_after row_edges edges_of to_simplify to_merge to_freeze to_push next_call driven_out uses cost by_cost notes marks preparing run_of stuck spilled slot_from next_stage turn first_stage allocation
square_done = refl

sum_refused : allocation cheapest roomy sum ≡ refused 19 3
unfolding reads sets follows ahead moves outcome left_by briggs george group_register place_of laid_out final_rows code_bytes piece_of rewritten all_made carried live_before live_after row_edges edges_of to_simplify to_merge to_freeze to_push next_call driven_out uses cost by_cost notes marks preparing run_of stuck spilled slot_from next_stage turn first_stage allocation
sum_refused = refl

pub worked : Worked
worked = record { square_done = square_done; sum_refused = sum_refused }
