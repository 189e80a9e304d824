-- What calls and answers mean. Assumes nothing.
use Rattle.std.specs.Prelude.{◌≡◌, ℕ, ◌<◌, List, map, length, take, drop, Ok, Err, Result}
use Rattle.kept.specs.Answers.{number_of}
use Rattle.kept.specs.declared.refusal.Refusal.{Refusal}
use Rattle.kept.specs.declared.moves.Merge.TheVariants.{Together, Apart, Merged}
use Rattle.session_laws.specs.Base.{Opening}
use Rattle.session_laws.specs.Calls.{Outcome, note, mark, simplify, freeze, push, merge, colour, refused, noted, marked, simplified, frozen, pushed, together, apart, merged, coloured}
use Rattle.session_laws.specs.Calls.{Call as RuleCall}
use Rattle.session_laws.specs.Laws.{answers}
use Rattle.replay.specs.declared.calls.Call.{Call}
use Rattle.replay.specs.declared.calls.Call.TheVariants.{Note, Mark, Simplify, Freeze, Push, Merge, Colour}
use Rattle.replay.specs.declared.calls.Granted.{Granted}
use Rattle.replay.specs.declared.calls.Granted.TheVariants.{Noted, Decided, Done}

-- a row of marks and a table of registers are lent in the length that suffices
abbrev pub call_of : Call → RuleCall
call_of (Note u v) = note u v
call_of (Mark v) = mark v
call_of (Simplify v) = simplify v
call_of (Freeze v) = freeze v
call_of (Push v) = push v
call_of (Merge m) = merge m 512
call_of Colour = colour 512

-- an answer with its refusal by number
abbrev pub numbered : Result Granted Refusal → Result Granted ℕ
numbered (Ok granted) = Ok granted
numbered (Err e) = Err (number_of e)

abbrev pub answer_of : Outcome → Result Granted ℕ
answer_of (refused k) = Err k
answer_of (noted m u v) = Ok (Noted m)
answer_of (marked v) = Ok Done
answer_of (simplified v) = Ok Done
answer_of (frozen v) = Ok Done
answer_of (pushed v) = Ok Done
answer_of (together m) = Ok (Decided Together)
answer_of (apart m) = Ok (Decided Apart)
answer_of (merged m u v) = Ok (Decided Merged)
answer_of (coloured register) = Ok Done

-- every call is answered, or the row was too short and nothing changed
abbrev pub AnsweredAll : Opening → List Call → List (Result Granted Refusal) → List (Result Granted Refusal) → Result (Unit {0}) Refusal → Type 0
AnsweredAll o calls before after (Ok x) =
    (map numbered (take (length calls) after) ≡ map answer_of (answers o (map call_of calls))) × (drop (length calls) after ≡ drop (length calls) before)
AnsweredAll o calls before after (Err e) = (after ≡ before) × (length before < length calls) × (number_of e ≡ 2)
