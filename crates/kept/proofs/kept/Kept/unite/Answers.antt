use Rattle.std.proofs.Common.{subst}
use Rattle.kept.specs.Kept.{base_of, state_of}
use Rattle.kept.specs.Moves.{moves_in, Found}
use Rattle.standing.specs.Standing.{board_of}
use Rattle.kept.proofs.Uniting.{ends_named, is_found, at_names, two_groups, merged_state, merged_sound}
use Rattle.kept.proofs.kept.Kept.unite.Goals as goal

pub unwrap-ends-requires : goal.unwrap-ends-requires
unfolding state_of
unwrap-ends-requires c = is_found (moves_in c.args.self.now.moves) c.args.m c.get.result c.requires.is_open.is_noted c.get.ensures

pub unite-requires : goal.unite-requires
unfolding state_of
unite-requires c =
    let k = c.args.self.now in
    let m = c.args.m in
    let found = subst (Found (moves_in k.moves) m) c.unwrap-ends.ensures c.get.ensures in
    let named = ends_named k m c.unwrap-ends.result c.group-x.result c.group-y.result c.min.result c.max.result found.1 c.group-x.ensures c.group-y.ensures c.min.ensures c.max.ensures in
    at_names (board_of k.standing) _ _ _ _ named.0 named.1 (two_groups k m _ _ c.requires)

pub invariant_of-self : goal.invariant_of-self
unfolding state_of
invariant_of-self c =
    let k = c.args.self.now in
    let m = c.args.m in
    let found = subst (Found (moves_in k.moves) m) c.unwrap-ends.ensures c.get.ensures in
    let named = ends_named k m c.unwrap-ends.result c.group-x.result c.group-y.result c.min.result c.max.result found.1 c.group-x.ensures c.group-y.ensures c.min.ensures c.max.ensures in
    record {
      sound = ∣ merged_sound k m _ _ c.requires c.unite.new.self c.close.new.self c.min.result c.max.result named.0 named.1
          c.unite.ensures.base c.unite.ensures.table c.unite.ensures.left c.close.ensures ∣₁;
    }

pub returns : goal.returns
unfolding base_of state_of
returns c =
    let k = c.args.self.now in
    let m = c.args.m in
    let found = subst (Found (moves_in k.moves) m) c.unwrap-ends.ensures c.get.ensures in
    let named = ends_named k m c.unwrap-ends.result c.group-x.result c.group-y.result c.min.result c.max.result found.1 c.group-x.ensures c.group-y.ensures c.min.ensures c.max.ensures in
    record {
      base = c.unite.ensures.base;
      state = merged_state k m _ _ c.requires c.unite.new.self c.close.new.self c.min.result c.max.result named.0 named.1
          c.unite.ensures.base c.unite.ensures.table c.unite.ensures.left c.close.ensures;
    }
