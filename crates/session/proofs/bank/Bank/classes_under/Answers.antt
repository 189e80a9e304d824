use Rattle.std.proofs.Common.{None, sym, rules}
use Rattle.session_laws.specs.Bank.{classes_under}
use Rattle.views.specs.Tables.{class_at}
use Rattle.session.specs.Banks.{bank_of}
use Rattle.session.proofs.Made.{made_of}
use Rattle.session.proofs.Tables.{past_classes}
use Rattle.session.proofs.bank.Bank.classes_under.Goals as goal

pub returns : goal.returns
returns c v =
    made_of _ _ (classes_under (bank_of c.args.self) (class_at c.args.classes.now)) (λ i y q k. search rules) c.from_fn.result None 512 c.from_fn.ensures.items
    (λ w h. sym (past_classes c.args.self c.args.classes.now c.told-classes w h)) v
