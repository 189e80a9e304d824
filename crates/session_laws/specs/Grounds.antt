-- What each outcome is granted on. Assumes nothing.
use Rattle.std.specs.Prelude.{◌≡◌, ℕ, ◌<◌, ◌≤◌, Bool, true, false, ◌&&◌, ◌||◌, length, ◌≢◌}
use Rattle.session_laws.specs.Base.{Base, fixed}
use Rattle.session_laws.specs.State.{State, standing_graph, degree_in, is_loose, move_at, has_pending, holds_temporary}
use Rattle.session_laws.specs.Tests.{may_merge}
use Rattle.session_laws.specs.Calls.{Outcome, refused, noted, marked, simplified, frozen, pushed, together, apart, merged, coloured}
use Rattle.session_laws.specs.Colouring.{register_of}
use Rattle.session_laws.specs.Outcomes.{most_moves}

pub record NotedOn (b : Base) (s : State) (m u v : ℕ) : Type 0 where
  pub next : m ≡ length s.moves
  pub room : m < most_moves
  pub one_stands : (standing_graph b s).stands u ≡ true
  pub other_stands : (standing_graph b s).stands v ≡ true

-- a vertex that simplify takes away or freeze is asked for
pub record LightOn (b : Base) (s : State) (v : ℕ) (waiting : Bool) : Type 0 where
  pub is_light : degree_in b s v < b.registers
  pub stays_loose : is_loose b s v ≡ true
  pub waits_so : has_pending s v ≡ waiting

pub record PushedOn (b : Base) (s : State) (v : ℕ) : Type 0 where
  pub stays_loose : is_loose b s v ≡ true
  pub all_heavy : (w : ℕ) → is_loose b s w ≡ true → b.registers ≤ degree_in b s w
  pub no_temporary : holds_temporary b s v ≡ false

-- a pending move
pub record OpenMove (s : State) (m : ℕ) : Type 0 where
  pub is_noted : m < length s.moves
  pub is_pending : (move_at s m).pending ≡ true

-- the ends are in one group
pub record TogetherOn (s : State) (m : ℕ) : Type 0 where
  pub is_open : OpenMove s m
  pub one_group : s.table (move_at s m).one ≡ s.table (move_at s m).other

-- the ends are in two groups that are joined, or both fixed
pub record ApartOn (b : Base) (s : State) (m : ℕ) : Type 0 where
  pub is_open : OpenMove s m
  pub two_groups : s.table (move_at s m).one ≡ s.table (move_at s m).other → ⊥
  pub conflict : ((standing_graph b s).joined (s.table (move_at s m).one) (s.table (move_at s m).other) ||
      (fixed b (s.table (move_at s m).one) && fixed b (s.table (move_at s m).other))) ≡ true

-- the ends are in two groups that are neither joined nor both fixed, and the test holds
pub record MergedOn (b : Base) (s : State) (m u v : ℕ) : Type 0 where
  pub is_open : OpenMove s m
  pub one_end : u ≡ (move_at s m).one
  pub other_end : v ≡ (move_at s m).other
  pub two_groups : s.table u ≡ s.table v → ⊥
  pub not_joined : (standing_graph b s).joined (s.table u) (s.table v) ≡ false
  pub not_fixed : (fixed b (s.table u) && fixed b (s.table v)) ≡ false
  pub test : may_merge (fixed b) b.registers (standing_graph b s) (s.table u) (s.table v) ≡ true

pub record ColouredOn (b : Base) (s : State) (register : ℕ → ℕ) : Type 0 where
  pub none_loose : (v : ℕ) → is_loose b s v ≢ true
  pub by_rule : register ≡ register_of b s

abbrev pub GrantedOn : Base → State → Outcome → Type 0
GrantedOn b s (refused k) = Unit {0}
GrantedOn b s (noted m u v) = NotedOn b s m u v
GrantedOn b s (marked v) = (standing_graph b s).stands v ≡ true
GrantedOn b s (simplified v) = LightOn b s v false
GrantedOn b s (frozen v) = LightOn b s v true
GrantedOn b s (pushed v) = PushedOn b s v
GrantedOn b s (together m) = TogetherOn s m
GrantedOn b s (apart m) = ApartOn b s m
GrantedOn b s (merged m u v) = MergedOn b s m u v
GrantedOn b s (coloured register) = ColouredOn b s register
