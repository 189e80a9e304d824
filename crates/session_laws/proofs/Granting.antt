-- Every outcome has its grounds. Assumes nothing.
use Rattle.std.proofs.Common.{◌≡◌, ℕ, true, cond, not, ◌&&◌, ◌||◌, eqb, ltb, length, refl}
use Rattle.std.proofs.lemmas.Bool.{cond_both, and_parts, and_from, or_parts, ltb-true, ltb-false, eqb-true, eqb-false, not-true, both_ways}
use Rattle.graph.specs.Counting.{any}
use Rattle.session_laws.specs.Base.{Base, SoundBase, fixed}
use Rattle.session_laws.specs.State.{State, standing_graph, is_loose, move_at, has_pending, holds_temporary}
use Rattle.session_laws.specs.Tests.{may_merge}
use Rattle.session_laws.specs.Calls.{Call, Outcome, note, mark, simplify, freeze, push, merge, colour, refused, noted, marked, simplified, frozen, pushed, together, apart, merged, coloured}
use Rattle.session_laws.specs.Colouring.{register_of}
use Rattle.session_laws.specs.Outcomes.{outcome, some_loose, at_vertex, low_degree, note_outcome, settled}
use Rattle.session_laws.specs.Grounds.{GrantedOn, OpenMove}
use Rattle.session_laws.proofs.Counts.{any_nowhere, second_fails}
use Rattle.session_laws.proofs.Standing.{loose_inside}

at_vertex_grounds : (b : Base) (s : State) (v : ℕ) (answer : Outcome) →
    ((standing_graph b s).stands v ≡ true → GrantedOn b s answer) → GrantedOn b s (at_vertex b s v answer)
at_vertex_grounds b s v answer f =
    cond_both (ltb v b.graph.size) (cond ((standing_graph b s).stands v) answer (refused 14)) (refused 13) (GrantedOn b s)
    (λ _. cond_both ((standing_graph b s).stands v) answer (refused 14) (GrantedOn b s) f (λ _. tt)) (λ _. tt)

note_grounds : (b : Base) (s : State) (u v : ℕ) → GrantedOn b s (note_outcome b s u v)
note_grounds b s u v =
    cond_both (ltb u b.graph.size && ltb v b.graph.size) _ (refused 13) (GrantedOn b s)
    (λ _. cond_both ((standing_graph b s).stands u && (standing_graph b s).stands v) _ (refused 14) (GrantedOn b s)
    (λ both. cond_both (ltb (length s.moves) 128) (noted (length s.moves) u v) (refused 16) (GrantedOn b s)
    (λ room. record {
      next = refl;
      room = ltb-true _ _ room;
      one_stands = (and_parts ((standing_graph b s).stands u) ((standing_graph b s).stands v) both).0;
      other_stands = (and_parts ((standing_graph b s).stands u) ((standing_graph b s).stands v) both).1;
    })
    (λ _. tt))
    (λ _. tt))
    (λ _. tt)

settled_grounds : (b : Base) (s : State) (m : ℕ) → OpenMove s m →
    GrantedOn b s (settled b s m (move_at s m).one (move_at s m).other (s.table (move_at s m).one) (s.table (move_at s m).other))
settled_grounds b s m is_open =
    let u = (move_at s m).one in
    let v = (move_at s m).other in
    let x = s.table u in
    let y = s.table v in
    cond_both (eqb x y) (together m) _ (GrantedOn b s) (λ same. record { is_open = is_open; one_group = eqb-true x y same })
    (λ differ. cond_both ((standing_graph b s).joined x y || (fixed b x && fixed b y)) (apart m) _ (GrantedOn b s)
    (λ conflict. record { is_open = is_open; two_groups = eqb-false x y differ; conflict = conflict })
    (λ free.
    let p = or_parts ((standing_graph b s).joined x y) (fixed b x && fixed b y) free in
    cond_both (may_merge (fixed b) b.registers (standing_graph b s) x y) (merged m u v) (refused 17) (GrantedOn b s)
    (λ test. record {
      is_open = is_open;
      one_end = refl;
      other_end = refl;
      two_groups = eqb-false x y differ;
      not_joined = p.0;
      not_fixed = p.1;
      test = test;
    })
    (λ _. tt)))

pub grounds : (b : Base) → SoundBase b → (s : State) (c : Call) → GrantedOn b s (outcome b s c)
unfolding outcome
grounds b sb s (note u v) = note_grounds b s u v
grounds b sb s (mark v) = at_vertex_grounds b s v (marked v) (λ h. h)
grounds b sb s (simplify v) = at_vertex_grounds b s v _ (λ stands.
    cond_both ((not (fixed b v) && low_degree b s v) && not (has_pending s v)) (simplified v) (refused 17) (GrantedOn b s)
    (λ e.
    let p = and_parts (not (fixed b v) && low_degree b s v) (not (has_pending s v)) e in
    let q = and_parts (not (fixed b v)) (low_degree b s v) p.0 in
    record { is_light = ltb-true _ _ q.1; stays_loose = and_from _ _ stands q.0; waits_so = not-true _ p.1 })
    (λ _. tt))
grounds b sb s (freeze v) = at_vertex_grounds b s v _ (λ stands.
    cond_both ((not (fixed b v) && low_degree b s v) && has_pending s v) (frozen v) (refused 17) (GrantedOn b s)
    (λ e.
    let p = and_parts (not (fixed b v) && low_degree b s v) (has_pending s v) e in
    let q = and_parts (not (fixed b v)) (low_degree b s v) p.0 in
    record { is_light = ltb-true _ _ q.1; stays_loose = and_from _ _ stands q.0; waits_so = p.1 })
    (λ _. tt))
grounds b sb s (push v) = at_vertex_grounds b s v _ (λ stands.
    cond_both ((not (fixed b v) && not (some_loose b s (low_degree b s))) && not (holds_temporary b s v)) (pushed v) (refused 17) (GrantedOn b s)
    (λ e.
    let p = and_parts (not (fixed b v) && not (some_loose b s (low_degree b s))) (not (holds_temporary b s v)) e in
    let q = and_parts (not (fixed b v)) (not (some_loose b s (low_degree b s))) p.0 in
    record {
      stays_loose = and_from _ _ stands q.0;
      all_heavy = λ w h. ltb-false _ _ (second_fails (is_loose b s w) (low_degree b s w)
          (any_nowhere (λ z. is_loose b s z && low_degree b s z) b.graph.size (not-true _ q.1) w (loose_inside b sb s w h)) h);
      no_temporary = not-true _ p.1;
    })
    (λ _. tt))
grounds b sb s (merge m marks) =
    cond_both (ltb marks 512) (refused 2) _ (GrantedOn b s) (λ _. tt)
    (λ _. cond_both (ltb m (length s.moves)) _ (refused 13) (GrantedOn b s)
    (λ is_noted. cond_both (move_at s m).pending _ (refused 17) (GrantedOn b s)
    (λ pending. settled_grounds b s m (record { is_noted = ltb-true _ _ is_noted; is_pending = pending })) (λ _. tt))
    (λ _. tt))
grounds b sb s (colour table) =
    cond_both (ltb table 512) (refused 2) _ (GrantedOn b s) (λ _. tt)
    (λ _. cond_both (any (is_loose b s) b.graph.size) (refused 18) (coloured (register_of b s)) (GrantedOn b s) (λ _. tt)
    (λ none. record {
      none_loose = λ v h. both_ways _ (any_nowhere (is_loose b s) b.graph.size none v (loose_inside b sb s v h)) h;
      by_rule = refl;
    }))
