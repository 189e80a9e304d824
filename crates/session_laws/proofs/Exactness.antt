-- With its grounds there, each call is granted. Assumes nothing.
use Rattle.std.proofs.Common.{◌≡◌, ℕ, ◌≤◌, Bool, true, false, not, ◌&&◌, ◌||◌, eqb, ltb, length, sym, ap, ◌∙◌}
use Rattle.std.proofs.lemmas.Bool.{false_from_ne_true, cond-true, cond-false, and_parts, and_from, or_from, lt-ltb, le-ltb, eq-eqb, ne_eqb, both_ways, not_from_false}
use Rattle.graph.specs.Counting.{any}
use Rattle.session_laws.specs.Base.{Base, SoundBase, fixed}
use Rattle.session_laws.specs.State.{State, standing_graph, is_loose, move_at, has_pending, holds_temporary}
use Rattle.session_laws.specs.Tests.{may_merge}
use Rattle.session_laws.specs.Calls.{Outcome, refused, noted, marked, simplified, frozen, pushed, together, apart, merged, coloured}
use Rattle.session_laws.specs.Colouring.{register_of}
use Rattle.session_laws.specs.Outcomes.{some_loose, at_vertex, low_degree, least_bytes, settled, merge_outcome, note_outcome, simplify_outcome, freeze_outcome, push_outcome, colour_outcome, outcome_note, outcome_mark, outcome_simplify, outcome_freeze, outcome_push, outcome_merge, outcome_colour}
use Rattle.session_laws.specs.Grounds.{NotedOn, LightOn, PushedOn, OpenMove, MergedOn}
use Rattle.session_laws.specs.Exactness.{Grants}
use Rattle.session_laws.proofs.Counts.{any_found}
use Rattle.session_laws.proofs.Standing.{standing_lawful}

-- where nothing passes, none does
pub none_passes : (p : ℕ → Bool) (n : ℕ) → ((v : ℕ) → p v ≡ true → ⊥) → any p n ≡ false
none_passes p n none = false_from_ne_true (any p n) (λ e. let f = any_found p n e in none f.0 f.2)

at_standing : (b : Base) → SoundBase b → (s : State) (v : ℕ) (answer : Outcome) → (standing_graph b s).stands v ≡ true → at_vertex b s v answer ≡ answer
at_standing b sb s v answer h =
    cond-true (ltb v b.graph.size) _ (refused 13) (lt-ltb _ _ ((standing_lawful b sb s).inside v h)) ∙
    cond-true ((standing_graph b s).stands v) answer (refused 14) h

loose_parts : (b : Base) (s : State) (v : ℕ) → is_loose b s v ≡ true → ((standing_graph b s).stands v ≡ true) × (not (fixed b v) ≡ true)
loose_parts b s v h = and_parts ((standing_graph b s).stands v) (not (fixed b v)) h

note_granted : (b : Base) → SoundBase b → (s : State) (m u v : ℕ) → NotedOn b s m u v → note_outcome b s u v ≡ noted m u v
note_granted b sb s m u v g =
    cond-true (ltb u b.graph.size && ltb v b.graph.size) _ (refused 13)
    (and_from _ _ (lt-ltb _ _ ((standing_lawful b sb s).inside u g.one_stands)) (lt-ltb _ _ ((standing_lawful b sb s).inside v g.other_stands))) ∙
    (cond-true ((standing_graph b s).stands u && (standing_graph b s).stands v) _ (refused 14) (and_from _ _ g.one_stands g.other_stands) ∙
    (cond-true (ltb (length s.moves) 128) (noted (length s.moves) u v) (refused 16) (lt-ltb _ _ (rw g.next at g.room)) ∙
    ap (λ (i : ℕ). noted i u v) (sym g.next)))

simplify_granted : (b : Base) → SoundBase b → (s : State) (v : ℕ) → LightOn b s v false → simplify_outcome b s v ≡ simplified v
simplify_granted b sb s v g =
    let p = loose_parts b s v g.stays_loose in
    at_standing b sb s v _ p.0 ∙
    cond-true ((not (fixed b v) && low_degree b s v) && not (has_pending s v)) (simplified v) (refused 17)
    (and_from _ _ (and_from _ _ p.1 (lt-ltb _ _ g.is_light)) (not_from_false _ g.waits_so))

freeze_granted : (b : Base) → SoundBase b → (s : State) (v : ℕ) → LightOn b s v true → freeze_outcome b s v ≡ frozen v
freeze_granted b sb s v g =
    let p = loose_parts b s v g.stays_loose in
    at_standing b sb s v _ p.0 ∙
    cond-true ((not (fixed b v) && low_degree b s v) && has_pending s v) (frozen v) (refused 17)
    (and_from _ _ (and_from _ _ p.1 (lt-ltb _ _ g.is_light)) g.waits_so)

push_granted : (b : Base) → SoundBase b → (s : State) (v : ℕ) → PushedOn b s v → push_outcome b s v ≡ pushed v
push_granted b sb s v g =
    let p = loose_parts b s v g.stays_loose in
    let none : some_loose b s (low_degree b s) ≡ false = none_passes _ b.graph.size (λ w h.
    let q = and_parts (is_loose b s w) (low_degree b s w) h in
    both_ways _ (le-ltb _ _ (g.all_heavy w q.0)) q.1) in
    at_standing b sb s v _ p.0 ∙
    cond-true ((not (fixed b v) && not (some_loose b s (low_degree b s))) && not (holds_temporary b s v)) (pushed v) (refused 17)
    (and_from _ _ (and_from _ _ p.1 (not_from_false _ none)) (not_from_false _ g.no_temporary))

-- an open move comes to be settled
merge_settles : (b : Base) (s : State) (m row : ℕ) → least_bytes ≤ row → OpenMove s m →
    merge_outcome b s m row ≡
    settled b s m (move_at s m).one (move_at s m).other (s.table (move_at s m).one) (s.table (move_at s m).other)
merge_settles b s m row enough g =
    cond-false (ltb row least_bytes) (refused 2) _ (le-ltb _ _ enough) ∙
    (cond-true (ltb m (length s.moves)) _ (refused 13) (lt-ltb _ _ g.is_noted) ∙
    cond-true (move_at s m).pending _ (refused 17) g.is_pending)

apart_granted : (b : Base) (s : State) (m u v x y : ℕ) → (x ≡ y → ⊥) → ((standing_graph b s).joined x y || (fixed b x && fixed b y)) ≡ true →
    settled b s m u v x y ≡ apart m
apart_granted b s m u v x y differ conflict =
    cond-false (eqb x y) (together m) _ (ne_eqb _ _ differ) ∙
    cond-true ((standing_graph b s).joined x y || (fixed b x && fixed b y)) (apart m) _ conflict

merge_granted : (b : Base) (s : State) (m u v : ℕ) → MergedOn b s m u v → settled b s m u v (s.table u) (s.table v) ≡ merged m u v
merge_granted b s m u v g =
    cond-false (eqb (s.table u) (s.table v)) (together m) _ (ne_eqb _ _ g.two_groups) ∙
    (cond-false ((standing_graph b s).joined (s.table u) (s.table v) || (fixed b (s.table u) && fixed b (s.table v))) (apart m) _
    (or_from _ _ g.not_joined g.not_fixed) ∙
    cond-true (may_merge (fixed b) b.registers (standing_graph b s) (s.table u) (s.table v)) (merged m u v) (refused 17) g.test)

colour_granted : (b : Base) (s : State) (table : ℕ) → least_bytes ≤ table → ((v : ℕ) → is_loose b s v ≡ true → ⊥) →
    colour_outcome b s table ≡ coloured (register_of b s)
colour_granted b s table enough none =
    cond-false (ltb table least_bytes) (refused 2) _ (le-ltb _ _ enough) ∙
    cond-false (any (is_loose b s) b.graph.size) (refused 18) (coloured (register_of b s)) (none_passes (is_loose b s) b.graph.size none)

pub grants : Grants
grants b sb s = record {
  notes = λ m u v g. outcome_note b s u v ∙ note_granted b sb s m u v g;
  marks = λ v h. outcome_mark b s v ∙ at_standing b sb s v (marked v) h;
  simplifies = λ v g. outcome_simplify b s v ∙ simplify_granted b sb s v g;
  freezes = λ v g. outcome_freeze b s v ∙ freeze_granted b sb s v g;
  pushes = λ v g. outcome_push b s v ∙ push_granted b sb s v g;
  finds_together = λ m row enough g.
      outcome_merge b s m row ∙ (merge_settles b s m row enough g.is_open ∙ cond-true (eqb _ _) (together m) _ (eq-eqb _ _ g.one_group));
  finds_apart = λ m row enough g.
      outcome_merge b s m row ∙ (merge_settles b s m row enough g.is_open ∙ apart_granted b s m _ _ _ _ g.two_groups g.conflict);
  merges = λ m u v row enough g.
      outcome_merge b s m row ∙ (merge_settles b s m row enough g.is_open ∙
      (ends m u v g.one_end g.other_end ∙ merge_granted b s m u v g));
  colours = λ table enough none. outcome_colour b s table ∙ colour_granted b s table enough none;
}
  where
    ends : (m u v : ℕ) → u ≡ (move_at s m).one → v ≡ (move_at s m).other →
        settled b s m (move_at s m).one (move_at s m).other (s.table (move_at s m).one) (s.table (move_at s m).other) ≡
        settled b s m u v (s.table u) (s.table v)
    ends m u v eu ev = ap (λ (i : ℕ). settled b s m i (move_at s m).other (s.table i) (s.table (move_at s m).other)) (sym eu) ∙
        ap (λ (i : ℕ). settled b s m u i (s.table u) (s.table i)) (sym ev)
