use Rattle.std.proofs.Common.{eqb, ◌∙◌}
use Rattle.numbers.specs.Sets.{has}
use Rattle.numbers.proofs.Rows.{member_insert, member_remove, or_cond, and_cond}
use Rattle.numbers.proofs.number_set.NumberSet.put.Goals as goal

pub returns-then-there : goal.returns-then-there
unfolding has
returns-then-there c k =
    let s = c.args.self.now in
    rw c.if-there.true (member_insert s.words c.args.n k s.whole c.requires ∙ or_cond (has s k) (eqb k c.args.n))

pub returns-else-there : goal.returns-else-there
unfolding has
returns-else-there c k =
    let s = c.args.self.now in
    rw c.if-there.false (member_remove s.words c.args.n k s.whole c.requires ∙ and_cond (has s k) (eqb k c.args.n))
