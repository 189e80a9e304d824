use Rattle.std.proofs.Common.{◌≡◌, false, ◌||◌, eqb, leb}
use Rattle.matrix.proofs.Adding.{pair_byte}
use Rattle.matrix.proofs.store.BitMatrixGraph.joined.Goals as goal

pub has_bit-requires : goal.has_bit-requires
has_bit-requires c =
    let m = c.args.self.now in
    let inside : ((leb m.n c.args.u || leb m.n c.args.v) || eqb c.args.u c.args.v) ≡ false = c.if-u-self.false in
    pair_byte m.n m.bits.now c.args.u c.args.v c.cell_of.result inside c.cell_of.ensures m.room.2
