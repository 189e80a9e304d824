-- Each call is granted exactly where its grounds are there: the other half of what an outcome is granted on. Assumes nothing.
use Rattle.std.specs.Prelude.{◌≡◌, ℕ, ◌≤◌, true, false, ◌≢◌}
use Rattle.session_laws.specs.Base.{Base, SoundBase}
use Rattle.session_laws.specs.State.{State, standing_graph, is_loose}
use Rattle.session_laws.specs.Calls.{note, mark, simplify, freeze, push, merge, colour, noted, marked, simplified, frozen, pushed, together, apart, merged, coloured}
use Rattle.session_laws.specs.Colouring.{register_of}
use Rattle.session_laws.specs.Outcomes.{outcome, least_bytes}
use Rattle.session_laws.specs.Grounds.{NotedOn, LightOn, PushedOn, TogetherOn, ApartOn, MergedOn}

-- With its grounds there, a call has this outcome.
pub record GrantedWhere (b : Base) (s : State) : Type 0 where
  pub notes : (m u v : ℕ) → NotedOn b s m u v → outcome b s (note u v) ≡ noted m u v
  pub marks : (v : ℕ) → (standing_graph b s).stands v ≡ true → outcome b s (mark v) ≡ marked v
  pub simplifies : (v : ℕ) → LightOn b s v false → outcome b s (simplify v) ≡ simplified v
  pub freezes : (v : ℕ) → LightOn b s v true → outcome b s (freeze v) ≡ frozen v
  pub pushes : (v : ℕ) → PushedOn b s v → outcome b s (push v) ≡ pushed v
  pub finds_together : (m row : ℕ) → least_bytes ≤ row → TogetherOn s m → outcome b s (merge m row) ≡ together m
  pub finds_apart : (m row : ℕ) → least_bytes ≤ row → ApartOn b s m → outcome b s (merge m row) ≡ apart m
  pub merges : (m u v row : ℕ) → least_bytes ≤ row → MergedOn b s m u v → outcome b s (merge m row) ≡ merged m u v
  pub colours : (table : ℕ) → least_bytes ≤ table → ((v : ℕ) → is_loose b s v ≢ true) →
      outcome b s (colour table) ≡ coloured (register_of b s)

abbrev pub Grants : Type 0
Grants = (b : Base) → SoundBase b → (s : State) → GrantedWhere b s
