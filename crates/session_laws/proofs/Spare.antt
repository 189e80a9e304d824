-- A group with a temporary is never pushed, so it always has a register to spare. Assumes nothing.
use Rattle.std.proofs.Common.{◌≡◌, ℕ, ◌<◌, min, max, Bool, true, ◌&&◌, eqb, List, [], ◌∷◌, sym, refl, inl, inr}
use Rattle.std.proofs.lemmas.Bool.{cases_Bool, and_parts, and_from, or_cases, or_right, or_left, eqb-true, eq-eqb, both_ways}
use Rattle.graph.specs.Shape.{Shape}
use Rattle.graph.specs.Views.{merged_view}
use Rattle.session_laws.specs.Bank.{among}
use Rattle.session_laws.specs.Base.{Base, SoundBase, fixed}
use Rattle.session_laws.specs.State.{State, listed, merged_graph, holds_temporary}
use Rattle.session_laws.specs.Calls.{Call, Outcome, refused, noted, marked, simplified, frozen, pushed, together, apart, merged, coloured}
use Rattle.session_laws.specs.Colouring.{own_number, group_register, register_of}
use Rattle.session_laws.specs.Grounds.{GrantedOn, ColouredOn}
use Rattle.session_laws.specs.Outcomes.{outcome}
use Rattle.session_laws.specs.Runs.{called, after, left_by, united}
use Rattle.session_laws.specs.Invariants.{SoundState, SpareList, SparesTemporaries}
use Rattle.session_laws.proofs.Colours.{own_loose, name_served, register_in, name_of}
use Rattle.graph.proofs.Counting.{any_from}
use Rattle.session_laws.proofs.Counts.{any_found}
use Rattle.session_laws.proofs.Emptied.{group_merging}
use Rattle.session_laws.proofs.Granting.{grounds}
use Rattle.session_laws.proofs.Light.{merged_spare, simplified_light}
use Rattle.session_laws.proofs.Painting.{painted_some}
use Rattle.session_laws.proofs.Pairs.{groups_of}
use Rattle.session_laws.proofs.Runs.{keeps}
use Rattle.session_laws.proofs.Standing.{stands_parts, Stands}

-- fewer pass
spare_fewer : (p q : ℕ → Bool) (k : ℕ) (g : Shape) (r : List ℕ) → ((v : ℕ) → listed r v ≡ true → q v ≡ true → p v ≡ true) →
    SpareList p k g r → SpareList q k g r
spare_fewer p q k g [] less l = tt
spare_fewer p q k g (v ∷ vs) less l = (
  λ h. l.0 (less v (or_left (eqb v v) (listed vs v) (eq-eqb v v refl)) h),
  spare_fewer p q k g vs (λ w hw. less w (or_right (eqb v w) (listed vs w) hw)) l.1,
)

-- a temporary among the members
holds_member : (b : Base) (s : State) (v : ℕ) → holds_temporary b s v ≡ true →
    (w : ℕ) × (w < b.graph.size) × (s.temporary w ≡ true) × (s.table w ≡ v)
holds_member b s v h =
    let found = any_found (λ w. s.temporary w && eqb (s.table w) v) b.graph.size h in
    let parts = and_parts (s.temporary found.0) (eqb (s.table found.0) v) found.2 in
    (found.0, found.1, parts.0, eqb-true _ _ parts.1)

holds_from : (b : Base) (s : State) (v w : ℕ) → w < b.graph.size → s.temporary w ≡ true → s.table w ≡ v → holds_temporary b s v ≡ true
holds_from b s v w inside temporary is =
    any_from (λ w. s.temporary w && eqb (s.table w) v) b.graph.size w inside (and_from _ _ temporary (eq-eqb _ _ is))

pub keeps_spare : (b : Base) → SoundBase b → (s : State) → SoundState b s → (o : Outcome) → GrantedOn b s o →
    SparesTemporaries b s → SparesTemporaries b (left_by s o)
unfolding left_by
keeps_spare b sb s ss (refused k) g l = l
keeps_spare b sb s ss (noted m u v) g l = l
keeps_spare b sb s ss (marked v) g l =
    let here : Stands b s v = stands_parts b s v g in
    spare_fewer (holds_temporary b s) (holds_temporary b (left_by s (marked v))) b.registers (merged_graph b s) s.removed (λ w removed h.
    let member = holds_member b (left_by s (marked v)) w h in
    elim (or_cases (eqb member.0 v) (s.temporary member.0) member.2) [
      | inl e ↦ absurd (
          let same : member.0 ≡ v = eqb-true _ _ e in
          let own : s.table v ≡ v = here.name.is_own in
          let is : s.table member.0 ≡ w = member.3 in
          let w-is : w ≡ v = cc in
          both_ways _ here.is_kept (rw w-is at removed))
      | inr e ↦ holds_from b s w member.0 member.1 e member.3
    ]) l
keeps_spare b sb s ss (simplified v) g l = (λ _. simplified_light b s v g, l)
keeps_spare b sb s ss (frozen v) g l = l
keeps_spare b sb s ss (pushed v) g l = (λ h. absurd (both_ways _ g.no_temporary h), l)
keeps_spare b sb s ss (together m) g l = l
keeps_spare b sb s ss (apart m) g l = l
keeps_spare b sb s ss (merged m u v) g l =
    let x = min (s.table u) (s.table v) in
    let y = max (s.table u) (s.table v) in
    let gs = groups_of b sb s ss m u v g in
    spare_fewer (holds_temporary b s) (holds_temporary b (left_by s (merged m u v))) b.registers (merged_view (united s.table y x) b.graph) s.removed (λ w removed h.
    let member = holds_member b (left_by s (merged m u v)) w h in
    let not-x : w ≡ x → ⊥ = λ e. both_ways _ gs.x_stands.is_kept (rw e at removed) in
    elim (cases_Bool (eqb (s.table member.0) y)) [
      | inl e ↦ absurd (not-x (sym (rw e at member.3)))
      | inr e ↦ holds_from b s w member.0 member.1 member.2 (rw e at member.3)
    ])
    (merged_spare (holds_temporary b s) (fixed b) b.registers (merged_graph b s) (merged_view (united s.table y x) b.graph) x y
    (group_merging b sb s u v x y gs) s.removed gs.x_stands.is_kept gs.y_stands.is_kept l)
keeps_spare b sb s ss (coloured register) g l = l

pub spare_run : (b : Base) → SoundBase b → (cs : List Call) (s : State) → SoundState b s → SparesTemporaries b s → SparesTemporaries b (after b s cs)
spare_run b sb [] s ss l = l
spare_run b sb (c ∷ cs) s ss l =
    spare_run b sb cs (called b s c) (keeps b sb s ss c).sound (keeps_spare b sb s ss (outcome b s c) (grounds b sb s c) l)

-- a removed group with a temporary has a register, whatever still stands
group_served : (b : Base) → SoundBase b → (s : State) → SoundState b s → SparesTemporaries b s → (v : ℕ) → listed s.removed v ≡ true →
    holds_temporary b s v ≡ true → among b.first b.registers (group_register b s v) ≡ true
unfolding group_register
group_served b sb s ss l v h p =
    painted_some (holds_temporary b s) b sb (merged_graph b s) (own_number b) s.removed ss.removed_once l
    (λ w hw. own_loose b w (ss.removed_loose w hw)) v h p

-- a granted colour gives every vertex a register whose group holds a temporary
pub temporaries_served : (b : Base) → SoundBase b → (s : State) → SoundState b s → SparesTemporaries b s → (register : ℕ → ℕ) → ColouredOn b s register →
    (v : ℕ) → b.graph.stands v ≡ true → holds_temporary b s (s.table v) ≡ true → among b.first b.registers (register_of b s v) ≡ true
temporaries_served b sb s ss l register g v hv p =
    rw (register_in b s v hv) (name_served (holds_temporary b s) b sb s ss l g.none_loose (s.table v) (name_of b s ss v hv) p)
