-- How a refusal, and what a check before opening answers, lie in a local, for walks by hand. Assumes nothing.
use Rattle.std.proofs.Common.{◌≡◌, [], ◌∷◌, refl, lit<}
use Rattle.std.proofs.RcSteps.{Good}
use Rattle.std.proofs.result.Result.TheLaws as result
use Rattle.std.specs.Prelude.{Ok, Err}
use Rattle.std.specs.Borrow.{RattleType}
use Rattle.std.specs.contracts.result.Result as RS
use seplogic.Ra.Ura.{Ura}
use mir.Val.{Val}
use types.Logic.{Logic}
use denote.Enum.Laws as enums
use denote.Laws.{Is, Tells, Makes}
use denote.Param.{layout}
use denote.Param.Laws.{of_field, field_told}
use denote.Param.Shared.{copy_shared}
use denote.Struct.Field.{unit-field}
use denote.Struct.Laws.{unit-laws, unit-copy}
use Rattle.graph.specs.declared.opening.OpeningRefusal.{OpeningRefusal}
use Rattle.graph.specs.declared.opening.OpeningRefusal.TheVariants.{NoSuchSize, ShortMemory}
use Rattle.graph.specs.contracts.opening.OpeningRefusal as refusal
use Rattle.graph.proofs.opening.OpeningRefusal.TheLaws as refusals

abbrev pub Refusal : RattleType
Refusal = refusal.the_row

abbrev pub word : OpeningRefusal → Val
word = refusals.the_told.val

pub word_good : (e : OpeningRefusal) → Good (layout Refusal) (word e)
word_good NoSuchSize = (tt, (record { fits = lit< tt }, tt))
word_good ShortMemory = (tt, (record { fits = lit< tt }, tt))

pub word_is : (e : OpeningRefusal) → Is Refusal e (word e ∷ [])
word_is NoSuchSize = enums.owes refusal.the_type refusals.the_laws NoSuchSize tt
word_is ShortMemory = enums.owes refusal.the_type refusals.the_laws ShortMemory tt

pub word_makes : {M : Type 1} {𝓤 : Ura M} (𝓛 : Logic 𝓤) → Makes 𝓛 Refusal (Is Refusal)
word_makes 𝓛 = enums.makes refusal.the_type refusals.the_plain 𝓛

abbrev pub Answer : RattleType
Answer = RS.the_row unit-field.row Refusal

abbrev answer_laws : enums.Laws (RS.the_type unit-field.row Refusal)
answer_laws = result.the_laws unit-field.row Refusal (of_field unit-field unit-laws refl (copy_shared unit-field unit-copy)) refusals.the_row_laws (field_told unit-field unit-laws) refusals.the_told

abbrev pub answer : Answer.Denot → Val
answer = enums.val (RS.the_type unit-field.row Refusal) answer_laws

pub answer_tells : Tells Answer (Is Answer) (λ r. answer r ∷ [])
answer_tells = enums.tells (RS.the_type unit-field.row Refusal) answer_laws

-- the two answers apart
pub by_answer : {X : Type 1} (r : Answer.Denot) → (r ≡ Ok tt → X) → ((e : OpeningRefusal) → r ≡ Err e → X) → X
by_answer (Ok x) granted refused = granted refl
by_answer (Err e) granted refused = refused e refl
