-- The laws over runs. Assumes nothing.
use Rattle.std.proofs.Common.{◌≡◌, ◌+◌, ◌≤◌, inl, inr, arith}
use Rattle.std.proofs.lemmas.Bool.{cases_Bool}
use Rattle.graph.specs.Counting.{count}
use Rattle.session_laws.specs.Base.{Base, base_of, own_class}
use Rattle.session_laws.specs.State.{opened, is_loose}
use Rattle.session_laws.specs.Calls.{pushed, coloured}
use Rattle.session_laws.specs.Runs.{after, outcomes}
use Rattle.session_laws.specs.Groups.{step, note_granted, total}
use Rattle.session_laws.specs.Laws.{Always, RunKeeps, StaysEmptiable, ColoursSoundly, NamesLowest, NeverPushes, ColoursAll, ColoursUnpushed, BoundedSteps}
use Rattle.session_laws.specs.Steps.{left_to_do}
use Rattle.session_laws.proofs.Grouped.{grouped_opened, linked_name}
use Rattle.session_laws.proofs.Openings.{given_joined}
use Rattle.session_laws.proofs.Runs.{opens_well, keeps, sound_run, emptied_run, light_run, steps_run, after_more, split, answered_split}

pub stays_emptiable : Always StaysEmptiable
stays_emptiable o p cs before between later _ e =
    let b = base_of o in
    let w = opens_well o p in
    rw (after_more b before between opened)
    (emptied_run b w.base between (after b opened before) (sound_run b w.base before opened w.state) e)

pub names_lowest : Always NamesLowest
names_lowest o p cs v =
    let b = base_of o in
    let w = opens_well o p in
    let g = grouped_opened b w.base cs w.state in
    let ss = sound_run b w.base cs opened w.state in (
      g.to_name v,
      λ u l.
          let same : (after b opened cs).table v ≡ (after b opened cs).table u = linked_name (outcomes b opened cs) (after b opened cs) g l in
          let low : (after b opened cs).table u ≤ u = ss.lowers u in
          omega arith,
    )

pub never_pushes : Always NeverPushes
never_pushes o p cs e v h =
    let b = base_of o in
    let w = opens_well o p in
    let r = answered_split b cs opened (pushed v) h in
    let ss = sound_run b w.base r.0 opened w.state in
    (keeps b w.base (after b opened r.0) ss r.1.0).unpushed (emptied_run b w.base r.0 opened w.state e) v r.1.1

pub colours_unpushed : Always ColoursUnpushed
colours_unpushed o p cs before later register e n =
    let b = base_of o in
    let w = opens_well o p in
    let r = split b cs opened before later (coloured register) e in
    let ss = sound_run b w.base r.0 opened w.state in
    let l = light_run b w.base r.0 opened w.state (λ v h. n v (rw r.1.1.0 at h)) w.light in
    (keeps b w.base (after b opened r.0) ss r.1.0).all_registers register r.1.1.1 l

pub colours_all : Always ColoursAll
colours_all o p cs e register h =
    let b = base_of o in
    let w = opens_well o p in
    let r = answered_split b cs opened (coloured register) h in
    let ss = sound_run b w.base r.0 opened w.state in
    let l = light_run b w.base r.0 opened w.state (λ v h. never_pushes o p r.0 e v h) w.light in
    (keeps b w.base (after b opened r.0) ss r.1.0).all_registers register r.1.1 l

pub colours_soundly : Always ColoursSoundly
colours_soundly o p cs before later register e =
    let b = base_of o in
    let w = opens_well o p in
    let r = split b cs opened before later (coloured register) e in
    let ss = sound_run b w.base r.0 opened w.state in
    let g = grouped_opened b w.base r.0 w.state in
    let f = (keeps b w.base (after b opened r.0) ss r.1.0).registers register r.1.1.1 in
    record {
      differ = λ u v j nu nv same. elim (cases_Bool ((own_class o).stands u)) [
        | inl hu ↦ elim (cases_Bool ((own_class o).stands v)) [
          | inl hv ↦ nu (f.differ u v (given_joined o u v hu hv j) same)
          | inr hv ↦ nv (f.outside v hv)
        ]
        | inr hu ↦ nu (f.outside u hu)
      ];
      alike = λ u v l. f.alike u v (linked_name (outcomes b opened r.0) (after b opened r.0) g (rw r.1.1.0 l));
      own = f.own;
      in_bank = f.in_bank;
      outside = f.outside;
    }

at_opening : (b : Base) → left_to_do b opened ≡ count (is_loose b opened) b.graph.size
unfolding left_to_do
at_opening b = omega arith

pub bounded_steps : Always BoundedSteps
bounded_steps o p cs =
    let w = opens_well o p in
    let all : total step (outcomes (base_of o) opened cs) + left_to_do (base_of o) (after (base_of o) opened cs) ≤
    left_to_do (base_of o) opened + total note_granted (outcomes (base_of o) opened cs) = steps_run (base_of o) w.base cs opened w.state in
    let start : left_to_do (base_of o) opened ≡ count (is_loose (base_of o) opened) o.given.size = at_opening (base_of o) in
    omega arith

pub runs_keep : Always RunKeeps
runs_keep o p cs = record {
  stays_emptiable = stays_emptiable o p cs;
  colours_soundly = colours_soundly o p cs;
  names_lowest = names_lowest o p cs;
  never_pushes = never_pushes o p cs;
  colours_all = colours_all o p cs;
  colours_unpushed = colours_unpushed o p cs;
  bounded_steps = bounded_steps o p cs;
}
