use Rattle.std.proofs.Common.{◌≡◌, ℕ, List, map, length, get_or, refl, ap, ◌∙◌, subst, ap₂, arith}
use Rattle.std.proofs.lemmas.List.{take_all}
use Rattle.kept.specs.Kept.{base_of, state_of}
use Rattle.session.specs.Banks.{opening_over}
use Rattle.session.proofs.Tables.{registers_few}
use Rattle.session_laws.specs.Base.{Base}
use Rattle.session_laws.specs.Outcomes.{outcome}
use Rattle.session_laws.specs.Runs.{called, outcomes}
use Rattle.session_laws.specs.State.{opened}
use Rattle.session_laws.proofs.Laws.{runs_keep}
use Rattle.replay.specs.Replaying.{call_of, answer_of}
use Rattle.replay.specs.declared.calls.Call.{Call}
use Rattle.replay.specs.declared.calls.Call.TheVariants.{Note}
use Rattle.replay.proofs.Replays.{one_more, RunSoFar}
use Rattle.replay.proofs.running.replay.Goals as goal

pub returns-then-answers-calls : goal.returns-then-answers-calls
returns-then-answers-calls g c = record {
  graph = refl;
  answers = (refl, c.if-answers-calls.true, refl);
  laws = runs_keep (opening_over (g.G.Graph.means c.args.graph).shape c.args.bank c.args.classes.now)
      (record { lawful = g.G.Graph.lawful c.args.graph; usable = record { least = (registers_few c.args.bank).0; most = (registers_few c.args.bank).1 } })
      (map call_of c.args.calls.now);
}

pub loop-i-init : goal.loop-i-init
loop-i-init g c = (refl, refl, (c.open-session.ensures.state, refl, refl))

pub loop-i-preserved : goal.loop-i-preserved
loop-i-preserved g c =
    let b : Base = base_of c.open-session.result.kept in
    let same : base_of c.loop-i.session.kept ≡ b = c.loop-i.invariant.1 in
    let i = c.loop-i.i in
    let calls = c.args.calls.now in
    let long : length c.loop-i.answers ≡ length c.args.answers.now = omega arith in (
      c.make.ensures.graph ∙ c.loop-i.invariant.0,
      c.make.ensures.base ∙ same,
      one_more b calls (state_of c.loop-i.session.kept) c.args.answers.now c.loop-i.answers i (Note 0 0) c.loop-i-test.true (omega arith) (omega arith) c.loop-i.invariant.2
          (state_of c.make.new.session.kept) c.make.result
          (c.make.ensures.state ∙ ap (λ (x : Base). called x (state_of c.loop-i.session.kept) (call_of (get_or calls i (Note 0 0)))) same)
          (c.make.ensures.answer ∙ ap (λ (x : Base). answer_of (outcome x (state_of c.loop-i.session.kept) (call_of (get_or calls i (Note 0 0))))) same),
    )

pub returns : goal.returns
returns g c =
    let o = opening_over (g.G.Graph.means c.args.graph).shape c.args.bank c.args.classes.now in
    let b : Base = base_of c.open-session.result.kept in
    let calls = c.args.calls.now in
    let end : c.loop-i.i ≡ length calls = omega arith in
    let run : RunSoFar b calls (state_of c.loop-i.session.kept) c.args.answers.now c.loop-i.answers (length calls) =
    subst (λ (i : ℕ). RunSoFar b calls (state_of c.loop-i.session.kept) c.args.answers.now c.loop-i.answers i) end c.loop-i.invariant.2 in
    record {
      graph = c.close.ensures ∙ (c.loop-i.invariant.0 ∙ c.open-session.ensures.graph);
      answers = (
        run.1 ∙ ap₂ (λ (x : Base) (cs : List Call). map answer_of (outcomes x opened (map call_of cs))) c.open-session.ensures.base (take_all (length calls) calls (omega arith)),
        run.2,
      );
      laws = runs_keep o
          (record { lawful = g.G.Graph.lawful c.args.graph; usable = record { least = (registers_few c.args.bank).0; most = (registers_few c.args.bank).1 } })
          (map call_of calls);
    }
