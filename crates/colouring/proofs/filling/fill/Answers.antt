use Rattle.std.proofs.Common.{◌≡◌, length, take, drop, ◌∙◌, arith}
use Rattle.std.proofs.Math.ListN.{get_or-append}
use Rattle.std.proofs.lemmas.List.{length-take-le}
use Rattle.std.proofs.lemmas.Slice.{drop-append-drop}
use Rattle.colouring.proofs.filling.fill.Goals as goal

pub returns : goal.returns
returns c =
    let table = c.args.table.now in
    let written = c.loop-v.register-items in
    let end : length (take 512 table) ≡ 512 = length-take-le 512 table c.requires in
    let whole : length written ≡ 512 = c.loop-v.auto.register-items ∙ end in
    record {
      each = λ v l. get_or-append written (drop 512 table) 0 v (omega arith) ∙ c.loop-v.invariant v (omega arith);
      rest = drop-append-drop 512 table written 512 (omega arith) whole;
    }
