use Rattle.std.proofs.Common.{◌≡◌, ℕ, length, replicate, sym, refl, ap, ◌∙◌, subst, arith, rules}
use lib.ListN.{length-replicate}
use Rattle.edges.specs.Table.{table_meaning, pairs_in, filled}
use Rattle.edges.proofs.Finding.{Gapless}
use Rattle.edges.proofs.Joining.{empty_gapless, empty_pairs, empty_filled, empty_meaning, granted_fit}
use Rattle.edges.proofs.edge_table.EdgeTable.open.Goals as goal

pub invariant_of-result : goal.invariant_of-result
invariant_of-result c =
    let slots : ℕ = length c.args.memory.now in
    let now : c.fill.new.self ≡ replicate slots 0 = search rules in
    let fit = granted_fit c.args.n slots c.requires in
    let long : length c.fill.new.self ≡ slots = ap length now ∙ length-replicate slots 0 in
    record {
      size = (fit.0, fit.1, omega (arith, fit.2));
      pairs = empty_pairs c.args.n slots ∙ sym (ap (pairs_in c.args.n) now);
      slots = empty_filled slots ∙ sym (ap filled now);
      gapless = subst Gapless (sym now) (empty_gapless slots);
    }

pub returns : goal.returns
returns c =
    let slots : ℕ = length c.args.memory.now in
    let now : c.fill.new.self ≡ replicate slots 0 = search rules in
    record {
      size = refl;
      words = now;
      same = refl;
      empty = ap (table_meaning c.args.n) now ∙ empty_meaning c.args.n slots;
    }
