-- Every call keeps a state sound. Assumes nothing.
use Rattle.std.proofs.Common.{◌≡◌, ℕ, ◌+◌, ◌<◌, ◌≤◌, min, max, true, false, not, ◌||◌, eqb, [], ◌∷◌, ◌++◌, length, sym, refl, ◌∙◌, inl, inr, arith}
use Rattle.std.proofs.lemmas.Bool.{cases_eq, and_parts, or_cases, or_from, eqb-true, ne_eqb, both_ways, not-true, false≢true, false_from_ne_true}
use Rattle.std.proofs.lemmas.List.{length_push, length-set, length-map}
use Rattle.graph.specs.Views.{removed_view, merged_view}
use Rattle.session_laws.specs.Base.{Base, SoundBase, fixed}
use Rattle.session_laws.specs.State.{Move, State, opened, listed, standing_graph, merged_graph, is_loose, move_at}
use Rattle.session_laws.specs.Calls.{Outcome, refused, noted, marked, simplified, frozen, pushed, together, apart, merged, coloured}
use Rattle.session_laws.specs.Grounds.{GrantedOn, OpenMove}
use Rattle.session_laws.specs.Runs.{left_by, united, closing, closing_all, closed}
use Rattle.session_laws.specs.Invariants.{SoundState}
use Rattle.session_laws.proofs.Moves.{pending_noted, noted_pending, closing_pending, closing_all_pending, ends_elsewhere, none_waits}
use Rattle.session_laws.proofs.Pairs.{Groups, groups_of}
use Rattle.session_laws.proofs.Standing.{Stands, stands_parts, stands_from, meet_from, keep_joined, kept_stands, keep_stands}
use Rattle.session_laws.proofs.Uniting.{united_moved, united_kept}

pub opened_sound : (b : Base) → SoundBase b → SoundState b opened
opened_sound b sb = record {
  lowers = λ v. omega arith;
  settles = λ v. refl;
  inside = λ v h. h;
  outside = λ v h. refl;
  own = λ v h. refl;
  removed_name = λ v h. refl;
  removed_vertex = λ v h. absurd (false≢true h);
  removed_loose = λ v h. absurd (false≢true h);
  removed_once = tt;
  one_stands = λ m h. absurd (false≢true h);
  other_stands = λ m h. absurd (false≢true h);
  apart_within = λ u v e. rw e (sb.lawful.apart v);
  few_moves = omega arith;
}

-- a state in which only moves were closed or noted
same_groups : (b : Base) (s t : State) → t.table ≡ s.table → t.removed ≡ s.removed →
    ((m : ℕ) → (move_at t m).pending ≡ true →
    ((standing_graph b s).stands (s.table (move_at t m).one) ≡ true) × ((standing_graph b s).stands (s.table (move_at t m).other) ≡ true)) →
    length t.moves ≤ 128 → SoundState b s → SoundState b t
same_groups b s t et er ends few ss = record {
  lowers = rw et ss.lowers;
  settles = rw et ss.settles;
  inside = rw et ss.inside;
  outside = rw et ss.outside;
  own = rw et ss.own;
  removed_name = rw (et, er) ss.removed_name;
  removed_vertex = rw er ss.removed_vertex;
  removed_loose = rw er ss.removed_loose;
  removed_once = rw er ss.removed_once;
  one_stands = λ m h. rw (et, er) (ends m h).0;
  other_stands = λ m h. rw (et, er) (ends m h).1;
  apart_within = rw et ss.apart_within;
  few_moves = few;
}

abbrev EndsStand : Base → State → Move → Type 0
EndsStand b s m = ((standing_graph b s).stands (s.table m.one) ≡ true) × ((standing_graph b s).stands (s.table m.other) ≡ true)

-- a state in which the vertex v was removed, and no pending move is in its group
removed_more : (b : Base) (s t : State) (v : ℕ) → t.table ≡ s.table → t.removed ≡ v ∷ s.removed → is_loose b s v ≡ true →
    ((m : ℕ) → (move_at t m).pending ≡ true →
    (EndsStand b s (move_at t m)) × ((s.table (move_at t m).one ≡ v → ⊥) × (s.table (move_at t m).other ≡ v → ⊥))) →
    length t.moves ≤ 128 → SoundState b s → SoundState b t
removed_more b s t v et er free ends few ss = record {
  lowers = rw et ss.lowers;
  settles = rw et ss.settles;
  inside = rw et ss.inside;
  outside = rw et ss.outside;
  own = rw et ss.own;
  removed_name = rw (et, er) (λ w h. elim (or_cases (eqb v w) (listed s.removed w) h) [
    | inl e ↦ let i = eqb-true v w e in rw i at here.name.is_own
    | inr e ↦ ss.removed_name w e
  ]);
  removed_vertex = rw er (λ w h. elim (or_cases (eqb v w) (listed s.removed w) h) [
    | inl e ↦ let i = eqb-true v w e in rw i at here.name.is_vertex
    | inr e ↦ ss.removed_vertex w e
  ]);
  removed_loose = rw er (λ w h. elim (or_cases (eqb v w) (listed s.removed w) h) [
    | inl e ↦ let i = eqb-true v w e in rw i at (not-true _ parts.1)
    | inr e ↦ ss.removed_loose w e
  ]);
  removed_once = rw er (here.is_kept, ss.removed_once);
  one_stands = λ m h. rw (et, er) (still (s.table (move_at t m).one) (ends m h).0.0 (ends m h).1.0);
  other_stands = λ m h. rw (et, er) (still (s.table (move_at t m).other) (ends m h).0.1 (ends m h).1.1);
  apart_within = rw et ss.apart_within;
  few_moves = few;
}
  where
    parts : ((standing_graph b s).stands v ≡ true) × (not (fixed b v) ≡ true)
    parts = and_parts ((standing_graph b s).stands v) (not (fixed b v)) free

    here : Stands b s v
    here = stands_parts b s v parts.0

    still : (w : ℕ) → (standing_graph b s).stands w ≡ true → (w ≡ v → ⊥) → (removed_view (listed (v ∷ s.removed)) (merged_graph b s)).stands w ≡ true
    still w h ne =
        let p = kept_stands s.removed (merged_graph b s) w h in
        keep_stands (v ∷ s.removed) (merged_graph b s) w p.0 (or_from (eqb v w) (listed s.removed w) (ne_eqb v w (λ e. ne (sym e))) p.1)

-- a state in which the group y went into the group x
united_sound : (b : Base) → SoundBase b → (s : State) (m u v x y : ℕ) → Groups b s u v x y → OpenMove s m → SoundState b s →
    SoundState b (record { table = united s.table y x; removed = s.removed; moves = closing s m; temporary = s.temporary })
united_sound b sb s m u v x y g om ss = record {
  lowers = λ w. elim (cases_eq (s.table w) y) [
    | inl e ↦
        let i : united s.table y x w ≡ x = united_moved s.table y x w e in
        let low : s.table w ≤ w = ss.lowers w in
        let lt : x < y = g.lower in
        rw i (omega arith)
    | inr e ↦ rw (united_kept s.table y x w e) (ss.lowers w)
  ];
  settles = λ w. elim (cases_eq (s.table w) y) [
    | inl e ↦ rw (united_moved s.table y x w e) (stays_x)
    | inr e ↦ rw (united_kept s.table y x w e) (united_kept s.table y x (s.table w) (λ i. e (sym (ss.settles w) ∙ i)) ∙ ss.settles w)
  ];
  inside = λ w h. elim (cases_eq (s.table w) y) [
    | inl e ↦ rw (united_moved s.table y x w e) g.x_stands.name.is_vertex
    | inr e ↦ rw (united_kept s.table y x w e) (ss.inside w h)
  ];
  outside = λ w h.
      let same : s.table w ≡ w = ss.outside w h in
      united_kept s.table y x w (λ e. both_ways _ h (rw (sym same ∙ e) g.y_stands.name.is_vertex)) ∙ same;
  own = λ w h.
      let same : s.table w ≡ w = ss.own w h in
      united_kept s.table y x w (λ e. both_ways _ g.y_loose (rw (sym same ∙ e) at h)) ∙ same;
  removed_name = λ w h.
      let same : s.table w ≡ w = ss.removed_name w h in
      united_kept s.table y x w (λ e. both_ways _ g.y_stands.is_kept (rw (sym same ∙ e) at h)) ∙ same;
  removed_vertex = ss.removed_vertex;
  removed_loose = ss.removed_loose;
  removed_once = ss.removed_once;
  one_stands = λ i h.
      let p = closing_pending s m i om.is_noted h in
      rw p.1 (still (move_at s i).one (ss.one_stands i (rw p.1 at h)));
  other_stands = λ i h.
      let p = closing_pending s m i om.is_noted h in
      rw p.1 (still (move_at s i).other (ss.other_stands i (rw p.1 at h)));
  apart_within = λ a c e. elim (cases_eq (s.table a) y) [
    | inl ea ↦ elim (cases_eq (s.table c) y) [
      | inl ec ↦ ss.apart_within a c (ea ∙ sym ec)
      | inr ec ↦ sb.lawful.symmetric a c ∙ not_met c a (sym (united_kept s.table y x c ec) ∙ (sym e ∙ united_moved s.table y x a ea)) ea
    ]
    | inr ea ↦ elim (cases_eq (s.table c) y) [
      | inl ec ↦ not_met a c (sym (united_kept s.table y x a ea) ∙ (e ∙ united_moved s.table y x c ec)) ec
      | inr ec ↦ ss.apart_within a c (sym (united_kept s.table y x a ea) ∙ (e ∙ united_kept s.table y x c ec))
    ]
  ];
  few_moves = rw (length-set s.moves m (closed (move_at s m))) ss.few_moves;
}
  where
    differ : x ≡ y → ⊥
    differ e = let lt : x < y = g.lower in omega arith

    stays_x : united s.table y x x ≡ x
    stays_x = united_kept s.table y x x (λ e. differ (sym g.x_stands.name.is_own ∙ e)) ∙ g.x_stands.name.is_own

    kept_own : (w : ℕ) → (s.table w ≡ y → ⊥) → s.table (s.table w) ≡ s.table w → united s.table y x (s.table w) ≡ s.table w
    kept_own w e own = united_kept s.table y x (s.table w) (λ i. e (sym own ∙ i)) ∙ own

    still : (w : ℕ) → (standing_graph b s).stands (s.table w) ≡ true →
        (removed_view (listed s.removed) (merged_view (united s.table y x) b.graph)).stands (united s.table y x w) ≡ true
    still w h = stands_from b (record { table = united s.table y x; removed = s.removed; moves = s.moves; temporary = s.temporary }) _
        (elim (cases_eq (s.table w) y) [
          | inl e ↦ rw (united_moved s.table y x w e) (record {
            name = record { is_vertex = g.x_stands.name.is_vertex; is_own = stays_x };
            is_kept = g.x_stands.is_kept;
          })
          | inr e ↦
              let p = stands_parts b s (s.table w) h in
              rw (united_kept s.table y x w e) (record {
                name = record { is_vertex = p.name.is_vertex; is_own = kept_own w e p.name.is_own };
                is_kept = p.is_kept;
              })
        ])

    not_met : (a c : ℕ) → s.table a ≡ x → s.table c ≡ y → b.graph.joined a c ≡ false
    not_met a c ea ec = false_from_ne_true (b.graph.joined a c) (λ j.
        both_ways _ g.not_joined (keep_joined s.removed (merged_graph b s) x y
        (meet_from s.table b.graph sb.lawful x y (record {
          one_name = g.x_stands.name;
          other_name = g.y_stands.name;
          two = differ;
          near = a;
          far = c;
          near_of = ea;
          far_of = ec;
          met = j;
        })) g.x_stands.is_kept g.y_stands.is_kept))

ends_of : (b : Base) (s : State) → SoundState b s → (m : ℕ) → (move_at s m).pending ≡ true → EndsStand b s (move_at s m)
ends_of b s ss m h = (ss.one_stands m h, ss.other_stands m h)

pub keeps_sound : (b : Base) → SoundBase b → (s : State) → SoundState b s → (o : Outcome) → GrantedOn b s o → SoundState b (left_by s o)
unfolding left_by
keeps_sound b sb s ss (refused k) g = ss
keeps_sound b sb s ss (noted m u v) g =
    let su : Stands b s u = stands_parts b s u g.one_stands in
    let sv : Stands b s v = stands_parts b s v g.other_stands in
    let new : Move = record { one = u; other = v; pending = true } in
    let low : m < 128 = g.room in
    let next : m ≡ length s.moves = g.next in
    let more : length (s.moves ++ new ∷ []) ≡ length s.moves + 1 = length_push s.moves new in
    same_groups b s (record { table = s.table; removed = s.removed; moves = s.moves ++ new ∷ []; temporary = s.temporary }) refl refl
    (λ i h. elim (noted_pending s.moves new i h) [
      | inl e ↦ rw e (ends_of b s ss i (rw e at h))
      | inr e ↦ rw e (rw su.name.is_own g.one_stands, rw sv.name.is_own g.other_stands)
    ])
    (omega arith) ss
keeps_sound b sb s ss (marked v) g =
    let t : State = record { table = s.table; removed = s.removed; moves = s.moves; temporary = λ w. eqb w v || s.temporary w } in
    same_groups b s t refl refl
    (λ i h. ends_of b s ss i h) ss.few_moves ss
keeps_sound b sb s ss (simplified v) g =
    removed_more b s (record { table = s.table; removed = v ∷ s.removed; moves = s.moves; temporary = s.temporary }) v refl refl g.stays_loose
    (λ i h. (ends_of b s ss i h, ends_elsewhere s.table v (move_at s i) h (none_waits s v i g.waits_so (pending_noted s.moves i h))))
    ss.few_moves ss
keeps_sound b sb s ss (frozen v) g =
    same_groups b s (record { table = s.table; removed = s.removed; moves = closing_all s v; temporary = s.temporary }) refl refl
    (λ i h. let p = closing_all_pending s v i h in rw p.1 (ends_of b s ss i (rw p.1 at h)))
    (rw (length-map s.moves _) ss.few_moves) ss
keeps_sound b sb s ss (pushed v) g =
    let t : State = record { table = s.table; removed = v ∷ s.removed; moves = closing_all s v; temporary = s.temporary } in
    removed_more b s t v refl refl g.stays_loose
    (λ i h.
    let p = closing_all_pending s v i h in
    let h' : (move_at s i).pending ≡ true = rw p.1 at h in
    rw p.1 (ends_of b s ss i h', ends_elsewhere s.table v (move_at s i) h' p.0))
    (rw (length-map s.moves _) ss.few_moves) ss
keeps_sound b sb s ss (together m) g =
    same_groups b s (record { table = s.table; removed = s.removed; moves = closing s m; temporary = s.temporary }) refl refl
    (λ i h. let p = closing_pending s m i g.is_open.is_noted h in rw p.1 (ends_of b s ss i (rw p.1 at h)))
    (rw (length-set s.moves m (closed (move_at s m))) ss.few_moves) ss
keeps_sound b sb s ss (apart m) g =
    same_groups b s (record { table = s.table; removed = s.removed; moves = closing s m; temporary = s.temporary }) refl refl
    (λ i h. let p = closing_pending s m i g.is_open.is_noted h in rw p.1 (ends_of b s ss i (rw p.1 at h)))
    (rw (length-set s.moves m (closed (move_at s m))) ss.few_moves) ss
keeps_sound b sb s ss (merged m u v) g =
    united_sound b sb s m u v (min (s.table u) (s.table v)) (max (s.table u) (s.table v)) (groups_of b sb s ss m u v g) g.is_open ss
keeps_sound b sb s ss (coloured register) g = ss
