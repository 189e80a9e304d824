use Rattle.std.proofs.Common.{rules, ◌≡◌, ℕ, ◌+◌, ◌-◌, ◌≤◌, Bool, refl, not, sym, ◌∙◌, ap₂, arith}
use Rattle.std.proofs.lemmas.Iterator.{YieldsList-from_range}
use Rattle.std.proofs.lemmas.Iterator.Adapters.{option_map_id}
use Rattle.std.proofs.lemmas.Iterator.Search.{find_from_yields_List}
use Rattle.graph.specs.Counting.{first}
use Rattle.numbers.specs.Sets.{has}
use Rattle.board.proofs.Members.{find_range}
use Rattle.standing.specs.Standing.{base_of}
use Rattle.standing.proofs.Shapes.{bank_small}
use Rattle.colouring.proofs.painting.lowest_free.Goals as goal

pub overflow_add-bank : goal.overflow_add-bank
overflow_add-bank c =
    let small : (base_of c.args.standing.now).first + (base_of c.args.standing.now).registers ≤ 32 = bank_small c.args.standing.now in
    omega arith

pub returns : goal.returns
returns c =
    let free : ℕ → Bool = λ r. not (has c.args.used.now r) in
    let a = c.first-start.result in
    let n = c.registers.result in
    let long : a + n - a ≡ n = omega arith in
    sym (option_map_id c.find.result)
    ∙ (find_from_yields_List free _ _ c.find.result c.find.ensures.ran (YieldsList-from_range a (a + n) n refl long) (λ x b q k. search rules)
    ∙ (find_range free n a ∙ ap₂ (first free) c.first-start.ensures c.registers.ensures))
