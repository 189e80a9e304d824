-- As long as nothing is pushed, each removed group has a register to spare. Assumes nothing.
use Rattle.std.proofs.Common.{◌≡◌, ℕ, ◌<◌, ◌≤◌, min, max, Bool, true, false, not, ◌&&◌, eqb, List, [], ◌∷◌, refl, arith}
use Rattle.std.proofs.lemmas.Bool.{and_parts, and_from, or_parts, eqb-false, not_from_false}
use Rattle.graph.specs.Counting.{count}
use Rattle.graph.specs.Shape.{Shape}
use Rattle.graph.specs.Views.{merged_view}
use Rattle.session_laws.specs.Base.{Base, SoundBase, fixed}
use Rattle.session_laws.specs.State.{State, listed, standing_graph, merged_graph, degree_in}
use Rattle.session_laws.specs.Calls.{Outcome, refused, noted, marked, simplified, frozen, pushed, together, apart, merged, coloured}
use Rattle.session_laws.specs.Grounds.{GrantedOn, LightOn}
use Rattle.session_laws.specs.Runs.{left_by, united}
use Rattle.session_laws.specs.Invariants.{SoundState, LightList, SpareList, AllLight}
use Rattle.session_laws.proofs.Counts.{count_mono}
use Rattle.session_laws.proofs.Emptied.{group_merging}
use Rattle.session_laws.proofs.Merges.{Merging, joined_falls}
use Rattle.session_laws.proofs.Painting.{light_spare}
use Rattle.session_laws.proofs.Pairs.{groups_of}
use Rattle.session_laws.proofs.Standing.{stands_parts, Stands}

pub merged_spare : (passes : ℕ → Bool) (fixed : ℕ → Bool) (k : ℕ) (s t : Shape) (x y : ℕ) → Merging fixed s t x y → (r : List ℕ) →
    listed r x ≡ false → listed r y ≡ false → SpareList passes k s r → SpareList passes k t r
merged_spare passes fixed k s t x y m [] kx ky l = tt
merged_spare passes fixed k s t x y m (v ∷ vs) kx ky l =
    let px = or_parts (eqb v x) (listed vs x) kx in
    let py = or_parts (eqb v y) (listed vs y) ky in
    let falls : count (λ w. t.joined v w && not (listed vs w)) t.size ≤ count (λ w. s.joined v w && not (listed vs w)) s.size =
    joined_falls fixed k s t x y m (λ w. not (listed vs w)) (λ w. not (listed vs w)) (λ w h. h)
    (λ _. not_from_false _ py.1) v (eqb-false v x px.0) in (
      λ h. let few : count (λ w. s.joined v w && not (listed vs w)) s.size < k = l.0 h in omega arith,
      merged_spare passes fixed k s t x y m vs px.1 py.1 l.1,
    )

spare_light : (k : ℕ) (g : Shape) (r : List ℕ) → SpareList (λ _. true) k g r → LightList k g r
spare_light k g [] l = tt
spare_light k g (v ∷ vs) l = (l.0 refl, spare_light k g vs l.1)

pub simplified_light : (b : Base) (s : State) (v : ℕ) → LightOn b s v false →
    count (λ w. (merged_graph b s).joined v w && not (listed s.removed w)) b.graph.size < b.registers
simplified_light b s v g =
    let here : Stands b s v = stands_parts b s v (and_parts ((standing_graph b s).stands v) (not (fixed b v)) g.stays_loose).0 in
    let few : degree_in b s v < b.registers = g.is_light in
    let less : count (λ w. (merged_graph b s).joined v w && not (listed s.removed w)) b.graph.size ≤ degree_in b s v =
    count_mono _ _ b.graph.size (λ w _ h.
    let p = and_parts ((merged_graph b s).joined v w) (not (listed s.removed w)) h in
    and_from ((merged_graph b s).joined v w) _ p.0 (and_from (not (listed s.removed v)) _ (not_from_false _ here.is_kept) p.1)) in
    omega arith

-- an outcome that is no push
abbrev pub NotPushed : Outcome → Type 0
NotPushed o = (v : ℕ) → o ≡ pushed v → ⊥

pub keeps_light : (b : Base) → SoundBase b → (s : State) → SoundState b s → (o : Outcome) → GrantedOn b s o → NotPushed o →
    AllLight b s → AllLight b (left_by s o)
unfolding left_by
keeps_light b sb s ss (refused k) g n l = l
keeps_light b sb s ss (noted m u v) g n l = l
keeps_light b sb s ss (marked v) g n l = l
keeps_light b sb s ss (simplified v) g n l = (simplified_light b s v g, l)
keeps_light b sb s ss (frozen v) g n l = l
keeps_light b sb s ss (pushed v) g n l = absurd (n v refl)
keeps_light b sb s ss (together m) g n l = l
keeps_light b sb s ss (apart m) g n l = l
keeps_light b sb s ss (merged m u v) g n l =
    let x = min (s.table u) (s.table v) in
    let y = max (s.table u) (s.table v) in
    let gs = groups_of b sb s ss m u v g in
    spare_light b.registers (merged_view (united s.table y x) b.graph) s.removed
    (merged_spare (λ _. true) (fixed b) b.registers (merged_graph b s) (merged_view (united s.table y x) b.graph) x y
    (group_merging b sb s u v x y gs) s.removed gs.x_stands.is_kept gs.y_stands.is_kept
    (light_spare (λ _. true) b.registers (merged_graph b s) s.removed l))
keeps_light b sb s ss (coloured register) g n l = l
