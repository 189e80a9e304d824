use Rattle.std.proofs.Common.{◌+◌, ◌≤◌, ◌<◌, not, sym, ap, ◌∙◌, arith}
use Rattle.graph.proofs.Counting.{first_found}
use Rattle.numbers.specs.Sets.{has}
use Rattle.session_laws.specs.Colouring.{or_none}
use Rattle.standing.specs.Standing.{base_of}
use Rattle.standing.proofs.Shapes.{bank_small}
use Rattle.colouring.specs.Painting.{merged_under, read_at}
use Rattle.colouring.proofs.Registers.{free_same}
use Rattle.colouring.proofs.painting.register_for.Goals as goal

pub overflow_cast-result : goal.overflow_cast-result
overflow_cast-result c =
    let b = base_of c.args.standing.now in
    let small : b.first + b.registers ≤ 32 = bank_small c.args.standing.now in
    let is = sym c.lowest_free.ensures ∙ c.in_ok-register.was in
    let low : c.in_ok-register.register < b.first + b.registers = (first_found (λ r. not (has c.used_near-used.result r)) b.registers b.first c.in_ok-register.register is).1 in
    omega arith

pub returns : goal.returns
returns c =
    let s = c.args.standing.now in
    let b = base_of s in
    let small : b.first + b.registers ≤ 32 = bank_small s in
    let is = sym c.in_ok-register.was ∙ c.lowest_free.ensures in
    let low : c.in_ok-register.register < b.first + b.registers =
    (first_found (λ r. not (has c.used_near-used.result r)) b.registers b.first c.in_ok-register.register (sym is)).1 in
    record {
      lowest = ap or_none is ∙ free_same b (merged_under s) (read_at c.args.groups.now) c.args.v (has c.used_near-used.result) (bank_small s) c.used_near-used.ensures;
      known = omega arith;
    }

pub returns-in_err-register : goal.returns-in_err-register
returns-in_err-register c =
    let s = c.args.standing.now in
    let is = c.from_residual.ensures ∙ (sym c.in_err-register.was ∙ c.lowest_free.ensures) in
    let none = c.from_residual.ensures in
    record {
      lowest = ap or_none is ∙ free_same (base_of s) (merged_under s) (read_at c.args.groups.now) c.args.v (has c.used_near-used.result) (bank_small s) c.used_near-used.ensures;
      known = rw none tt;
    }
