use Rattle.std.proofs.Common.{◌≡◌, ℕ, ◌≤◌, List, ◌++◌, length, drop, sym, refl, ap, ◌∙◌, rules, arith}
use Rattle.matrix.specs.Layout.{bytes_for, cleared}
use Rattle.matrix.specs.Matrix.{matrix_meaning}
use Rattle.matrix.proofs.Clearing.{cleared_meaning, granted_room}
use Rattle.matrix.proofs.bit_matrix.BitMatrix.open.Goals as goal

pub returns : goal.returns
returns c =
    let bytes : List ℕ = c.args.memory.now in
    let count : ℕ = c.whole_bytes.result in
    let room = granted_room c.args.n (length bytes) (sym c.requires) in
    let inside : count ≤ length bytes = omega (arith, c.whole_bytes.ensures, room.2) in
    let filled : c.fill.new.self ++ drop count bytes ≡ cleared count bytes = search rules in
    let now : c.fill.new.self ++ drop count bytes ≡ cleared (bytes_for c.args.n) bytes =
    filled ∙ ap (λ (k : ℕ). cleared k bytes) c.whole_bytes.ensures in
    record {
      size = refl;
      bits = now;
      same = refl;
      empty = ap (matrix_meaning c.args.n) now ∙ cleared_meaning c.args.n bytes;
    }
