use Rattle.std.proofs.Common.{sym}
use Rattle.code.proofs.Asking.{code_length}
use Rattle.code.proofs.body.Code.len.Goals as goal

pub returns : goal.returns
returns c = sym (code_length c.args.self.now)
