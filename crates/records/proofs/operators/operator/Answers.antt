use Rattle.std.proofs.Common.{sym, ◌∙◌}
use Rattle.records.proofs.Maps.{operator_read}
use Rattle.records.proofs.operators.operator.Goals as goal

pub returns : goal.returns
returns c = c.with_parts.ensures ∙ sym (operator_read c.args.place c.args.kind c.args.map c.requires)
