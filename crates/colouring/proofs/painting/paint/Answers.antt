use Rattle.std.proofs.Common.{rules, ◌≡◌, ℕ, ◌<◌, cond, Some, None, Option, Bor, List, length, get_or, set, refl, sym, ap, ◌∙◌, arith, length-set}
use mathlib.Core.Path.{fun_ext}
use Rattle.board.proofs.Making.{made_at}
use Rattle.session_laws.specs.Base.{fixed}
use Rattle.session_laws.specs.Colouring.{painted, lowest_free, giving}
use Rattle.standing.specs.Standing.{base_of}
use Rattle.standing.proofs.Shapes.{base_sound}
use Rattle.colouring.specs.Painting.{merged_under, read_at}
use Rattle.colouring.proofs.Registers.{own_numbers, own_known, given_now, given_known, painted_step, painted_end, last_is, last_small}
use Rattle.colouring.proofs.painting.paint.Goals as goal

pub bounds-groups-v : goal.bounds-groups-v
bounds-groups-v c = last_small c.args.removed.now c.args.top c.unwrap_or-last.result.now c.loop-v.v-index c.requires c.loop-v.invariant.1 c.loop-v-test.true

pub offset_bounds-groups-v : goal.offset_bounds-groups-v
offset_bounds-groups-v c =
    let small : get_or c.unwrap_or-last.result.now c.loop-v.v-index 0 < 512 =
    last_small c.args.removed.now c.args.top c.unwrap_or-last.result.now c.loop-v.v-index c.requires c.loop-v.invariant.1 c.loop-v-test.true in
    omega arith

pub loop-v-init : goal.loop-v-init
loop-v-init c =
    let s = c.args.standing.now in
    let b = base_of s in
    let groups = c.from_fn-groups.result in
    let items = c.from_fn-groups.ensures.items in
    let made : (w : ℕ) (d : Option ℕ) → w < 512 → get_or groups w d ≡ cond {A = Option ℕ} (fixed b w) (Some w) None =
    λ w d low. made_at groups items (λ v o. o ≡ cond {A = Option ℕ} (fixed b v) (Some v) None) (λ x y q e. search rules) w d low in
    let own = own_numbers b (base_sound s) groups items.long made in (
      items.long,
      ap (λ (l : Bor (List ℕ)). l.now) c.unwrap_or-last.ensures ∙ last_is c.args.removed.now c.args.top c.get.result _ refl c.get.ensures.lookup.0,
      ap (λ (d : ℕ → ℕ). painted b (merged_under s) d c.unwrap_or-last.result.now) (fun_ext own),
      own_known b (base_sound s) groups items.long made,
    )

pub loop-v-preserved : goal.loop-v-preserved
loop-v-preserved c =
    let s = c.args.standing.now in
    let b = base_of s in
    let g = merged_under s in
    let groups = c.loop-v.groups in
    let last = c.unwrap_or-last.result.now in
    let i = c.loop-v.v-index in
    let v = get_or last i 0 in
    let register = c.register_for.result in
    let whole : length groups ≡ 512 = c.loop-v.invariant.0 in
    let small : get_or last i 0 < 512 = last_small c.args.removed.now c.args.top last i c.requires c.loop-v.invariant.1 c.loop-v-test.true in
    let next : read_at (set groups v register) ≡ giving (read_at groups) v (lowest_free b g (read_at groups) v) =
    given_now groups v register (omega arith) ∙ ap (giving (read_at groups) v) c.register_for.ensures.lowest in (
      length-set groups v register ∙ whole,
      c.loop-v.invariant.1,
      painted_step b g (read_at groups) last i _ c.loop-v-test.true next ∙ c.loop-v.invariant.2,
      given_known groups v register (omega arith) c.register_for.ensures.known c.loop-v.invariant.3,
    )

pub returns : goal.returns
returns c =
    let s = c.args.standing.now in
    let b = base_of s in
    let g = merged_under s in
    let last = c.unwrap_or-last.result.now in
    let end = painted_end b g (read_at c.loop-v.groups) last c.loop-v.v-index c.loop-v-test.false in record {
      each = λ w. ap (λ (d : ℕ → ℕ). d w) (sym end ∙ (c.loop-v.invariant.2 ∙ ap (painted b g _) c.loop-v.invariant.1));
      known = c.loop-v.invariant.3;
    }
