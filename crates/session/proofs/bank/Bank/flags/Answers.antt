use Rattle.std.proofs.Common.{false, sym, rules, arith}
use Rattle.session_laws.specs.Bank.{is_register}
use Rattle.session.specs.Banks.{bank_of}
use Rattle.session.proofs.Made.{made_of}
use Rattle.session.proofs.Tables.{no_register}
use Rattle.session.proofs.bank.Bank.flags.Goals as goal

pub returns : goal.returns
returns c v =
    made_of _ _ (is_register (bank_of c.args.self)) (λ i y q k. search rules) c.from_fn.result false 512 c.from_fn.ensures.items
    (λ w h. sym (no_register c.args.self w (omega arith))) v
