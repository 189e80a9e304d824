use Rattle.std.proofs.Common.{sym, refl, ◌∙◌}
use Rattle.session_laws.specs.Calls.{note}
use Rattle.session_laws.specs.Outcomes.{outcome_note}
use Rattle.kept.specs.Kept.{base_of, state_of}
use Rattle.kept.proofs.Noting.{added_sound, added_rules}
use Rattle.kept.proofs.Verdicts.{refused_rules, note_first, note_second, note_first_gone, note_second_gone, note_both}
use Rattle.kept.proofs.kept.Kept.note.Goals as goal
use Rattle.kept.proofs.kept.Kept.note.Goals.{then-u-n-via-then-u-n, then-u-n-via-else-u-n+then-v-n}
use Rattle.kept.proofs.kept.Kept.note.Goals.{then-not-stands-via-then-not-stands, then-not-stands-via-else-not-stands+then-not-stands-2}

pub returns-then-u-n : goal.returns-then-u-n
returns-then-u-n c =
    let k = c.args.self.now in
    let u = c.args.u in
    let v = c.args.v in
    refused_rules k (note u v) 13 (sym (outcome_note (base_of k) (state_of k) u v ∙ elim c.then-u-n.branch [
      | then-u-n-via-then-u-n w ↦ note_first k u v c.size-n.result c.size-n.ensures w.if-u-n.true
      | then-u-n-via-else-u-n+then-v-n w ↦ note_second k u v c.size-n.result c.size-n.ensures w.if-u-n.false w.if-v-n.true
    ]))

pub returns-then-not-stands : goal.returns-then-not-stands
returns-then-not-stands c =
    let k = c.args.self.now in
    let u = c.args.u in
    let v = c.args.v in
    refused_rules k (note u v) 14 (sym (outcome_note (base_of k) (state_of k) u v ∙ elim c.then-not-stands.branch [
      | then-not-stands-via-then-not-stands w ↦ note_first_gone k u v c.size-n.result c.size-n.ensures c.if-u-n.false c.if-v-n.false (sym w.if-not-stands.ensures)
      | then-not-stands-via-else-not-stands+then-not-stands-2 w ↦
          note_second_gone k u v c.size-n.result c.size-n.ensures c.if-u-n.false c.if-v-n.false (sym w.if-not-stands.ensures) (sym w.if-not-stands-2.ensures)
    ]))

pub invariant_of-self : goal.invariant_of-self
invariant_of-self c =
    let k = c.args.self.now in
    let u = c.args.u in
    let v = c.args.v in
    let both = note_both k u v c.size-n.result c.size-n.ensures c.if-u-n.false c.if-v-n.false (sym c.if-not-stands.ensures) (sym c.if-not-stands-2.ensures) in
    record { sound = ∣ added_sound k u v c.push.new.self both c.push.result c.push.ensures ∣₁ }

pub returns : goal.returns
unfolding base_of state_of
returns c =
    let k = c.args.self.now in
    let u = c.args.u in
    let v = c.args.v in
    let both = note_both k u v c.size-n.result c.size-n.ensures c.if-u-n.false c.if-v-n.false (sym c.if-not-stands.ensures) (sym c.if-not-stands-2.ensures) in
    added_rules k u v c.push.new.self both _ refl refl c.push.result c.push.ensures
