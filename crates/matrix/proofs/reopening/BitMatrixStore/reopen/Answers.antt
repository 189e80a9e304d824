use Rattle.std.proofs.Common.{◌≡◌, ℕ, List, length, refl, ap, ◌∙◌}
use Rattle.graph.specs.Stores.{empty_store, renewed}
use Rattle.matrix.specs.Layout.{bytes_for, triangle}
use Rattle.matrix.specs.Matrix.{matrix_meaning, fits_in}
use Rattle.matrix.proofs.Clearing.{cleared_length, granted_room}
use Rattle.matrix.proofs.reopening.BitMatrixStore.reopen.Goals as goal

pub returns : goal.returns
returns c =
    let bytes : List ℕ = c.args.self.bits.now in
    let granted = c.in-Ok.ensures in
    let room = granted_room c.args.n (length bytes) granted in
    let long : length c.open.result.bits.now ≡ length bytes = ap length c.open.ensures.bits ∙ cleared_length bytes (bytes_for c.args.n) room.2 in
    record {
      after = c.open.ensures.empty
          ∙ ap (λ r. renewed r (empty_store c.args.n (triangle c.args.n)) (matrix_meaning c.args.self.n bytes)) granted;
      holds = ap fits_in long;
      room = refl;
    }
