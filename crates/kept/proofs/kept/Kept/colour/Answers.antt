use Rattle.std.proofs.Common.{length, sym, refl, ◌∙◌}
use Rattle.session_laws.specs.Calls.{colour}
use Rattle.session_laws.specs.Outcomes.{outcome_colour}
use Rattle.kept.specs.Kept.{base_of, state_of}
use Rattle.kept.specs.Removed.{groups_in}
use Rattle.kept.proofs.Colours.{colour_short, colour_early, colour_granted, coloured_rules, removed_small, registers_are}
use Rattle.kept.proofs.Verdicts.{refused_rules}
use Rattle.kept.proofs.kept.Kept.colour.Goals as goal

pub returns-then-table-lt512 : goal.returns-then-table-lt512
returns-then-table-lt512 c =
    let k = c.args.self.now in
    let n = length c.args.table.now in
    record { rules = refused_rules k (colour n) 2 (sym (outcome_colour (base_of k) (state_of k) n ∙ colour_short k n c.if-table-lt512.true)); table = refl }

pub returns-then-any_loose : goal.returns-then-any_loose
returns-then-any_loose c =
    let k = c.args.self.now in
    let n = length c.args.table.now in
    record {
      rules = refused_rules k (colour n) 18 (sym (outcome_colour (base_of k) (state_of k) n ∙ colour_early k n c.if-table-lt512.false (sym c.if-any_loose.ensures)));
      table = refl;
    }

pub paint-groups-requires : goal.paint-groups-requires
paint-groups-requires c = removed_small c.args.self.now

pub returns : goal.returns
unfolding groups_in
returns c =
    let k = c.args.self.now in
    let n = length c.args.table.now in
    record {
      rules = coloured_rules k (colour n) _ (sym (outcome_colour (base_of k) (state_of k) n ∙ colour_granted k n c.if-table-lt512.false (sym c.if-any_loose.ensures)));
      table = (λ v l. c.fill.ensures.each v l ∙ registers_are k c.paint-groups.result c.paint-groups.ensures.each v, c.fill.ensures.rest);
    }
