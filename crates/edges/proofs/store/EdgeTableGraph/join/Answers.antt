use Rattle.std.proofs.Common.{ℕ, ◌+◌, sym, refl, ap, ◌∙◌, arith, Ok}
use Rattle.graph.proofs.Joining.{full_answer, full_meaning, added_answer}
use Rattle.edges.specs.Table.{table_meaning}
use Rattle.edges.proofs.Joining.{table_fresh, table_full, table_room, Written, written}
use Rattle.edges.proofs.store.EdgeTableGraph.join.Goals as goal

pub returns-then-self : goal.returns-then-self
returns-then-self c =
    let m = c.args.self.now in
    let fresh = table_fresh m.n m.words.now c.args.u c.args.v c.joined.result c.joined.ensures (sym (c.in_ok-judge.was ∙ ap Ok c.in-Fresh.is) ∙ c.judge.ensures) in
    let none = table_full m.n m.words.now m.used m.pairs c.if-self.true in
    let same = sym (full_meaning (table_meaning m.n m.words.now) c.args.u c.args.v fresh none) in
    record {
      answer = sym (full_answer (table_meaning m.n m.words.now) c.args.u c.args.v fresh none);
      after = same;
      left = (refl, refl, refl, same);
    }

put : (c : goal.After-slot-slot) → Written c.args.self.now.n c.args.self.now.words.now c.args.u c.args.v c.slot-slot.result c.key_of-word.result
put c =
    let m = c.args.self.now in
    let fresh = table_fresh m.n m.words.now c.args.u c.args.v c.joined.result c.joined.ensures (sym (c.in_ok-judge.was ∙ ap Ok c.in-Fresh.is) ∙ c.judge.ensures) in
    written m.n m.words.now c.args.u c.args.v m.used c.slot-slot.result c.key_of-word.result m.size m.gapless
    m.pairs m.slots fresh c.if-self.false c.key_of-word.ensures c.slot-slot.ensures

pub offset_bounds-self-slot : goal.offset_bounds-self-slot
offset_bounds-self-slot c = omega (arith, (put c).inside, c.fits-self)

pub bounds-self-slot : goal.bounds-self-slot
bounds-self-slot c = (put c).inside

pub invariant_of-self : goal.invariant_of-self
invariant_of-self c =
    let m = c.args.self.now in
    let w = put c in
    record {
      size = (m.size.0, m.size.1, omega (arith, w.long, m.size.2));
      pairs = ap (λ (x : ℕ). x + 1) m.pairs ∙ w.pairs;
      slots = ap (λ (x : ℕ). x + 1) m.slots ∙ w.slots;
      gapless = w.gapless;
    }

pub returns-else-self : goal.returns-else-self
returns-else-self c =
    let m = c.args.self.now in
    let fresh = table_fresh m.n m.words.now c.args.u c.args.v c.joined.result c.joined.ensures (sym (c.in_ok-judge.was ∙ ap Ok c.in-Fresh.is) ∙ c.judge.ensures) in
    let w = written m.n m.words.now c.args.u c.args.v m.used c.slot-slot.result c.key_of-word.result m.size m.gapless
    m.pairs m.slots fresh c.if-self.false c.key_of-word.ensures c.slot-slot.ensures in
    record {
      answer = sym (added_answer (table_meaning m.n m.words.now) c.args.u c.args.v fresh
          (table_room m.n m.words.now m.used m.pairs c.if-self.false));
      after = w.after;
      left = (refl, refl, w.long, w.after);
    }
