-- There is room in a list of the removed: no more are removed than do not stand. Assumes nothing.
use Rattle.std.proofs.Common.{◌≡◌, ℕ, zero, suc, ◌+◌, ◌<◌, ◌≤◌, Bool, true, eqb, List, [], ◌∷◌, length, refl, inl, inr, arith}
use Rattle.std.proofs.lemmas.Bool.{cases_Bool, eq-eqb, or_left, or_right, both_ways}
use Rattle.graph.specs.Counting.{count}
use Rattle.session_laws.specs.Base.{Base, SoundBase}
use Rattle.session_laws.specs.State.{State, listed, standing_graph}
use Rattle.session_laws.specs.Invariants.{SoundState, Distinct}
use Rattle.session_laws.proofs.Counts.{count_mono, but, but_from, count_less}
use Rattle.session_laws.proofs.Standing.{stands_parts}

-- different numbers below n are at most as many as are listed
pub length_listed : (n : ℕ) (vs : List ℕ) → Distinct vs → ((v : ℕ) → listed vs v ≡ true → v < n) → length vs ≤ count (listed vs) n
length_listed n [] d inside = omega arith
length_listed n (v ∷ vs) d inside =
    let before : length vs ≤ count (listed vs) n = length_listed n vs d.1 (λ w h. inside w (or_right (eqb v w) (listed vs w) h)) in
    let here : listed (v ∷ vs) v ≡ true = or_left (eqb v v) (listed vs v) (eq-eqb v v refl) in
    let less : count (but (listed (v ∷ vs)) v) n + 1 ≤ count (listed (v ∷ vs)) n = count_less (listed (v ∷ vs)) v n (inside v here) here in
    let kept : count (listed vs) n ≤ count (but (listed (v ∷ vs)) v) n = count_mono _ _ n (λ w _ h.
    but_from (listed (v ∷ vs)) v w (or_right (eqb v w) (listed vs w) h) (λ e. both_ways _ d.0 (rw e at h))) in
    omega arith

-- two tests that no number passes both of
disjoint : (p q : ℕ → Bool) (n : ℕ) → ((v : ℕ) → p v ≡ true → q v ≡ true → ⊥) → count p n + count q n ≤ n
disjoint p q zero apart = omega arith
disjoint p q (suc n) apart =
    let before : count p n + count q n ≤ n = disjoint p q n apart in
    elim (cases_Bool (p n)) [
      | inl hp ↦ elim (cases_Bool (q n)) [
        | inl hq ↦ absurd (apart n hp hq)
        | inr hq ↦ rw (hp, hq) (omega arith)
      ]
      | inr hp ↦ elim (cases_Bool (q n)) [
        | inl hq ↦ rw (hp, hq) (omega arith)
        | inr hq ↦ rw (hp, hq) (omega arith)
      ]
    ]

pub removed_and_standing : (b : Base) → SoundBase b → (s : State) → SoundState b s →
    length s.removed + count (standing_graph b s).stands b.graph.size ≤ b.graph.size
removed_and_standing b sb s ss =
    let all : length s.removed ≤ count (listed s.removed) b.graph.size =
    length_listed b.graph.size s.removed ss.removed_once (λ v h. sb.lawful.inside v (ss.removed_vertex v h)) in
    let both : count (listed s.removed) b.graph.size + count (standing_graph b s).stands b.graph.size ≤ b.graph.size =
    disjoint (listed s.removed) (standing_graph b s).stands b.graph.size (λ v h t. both_ways _ (stands_parts b s v t).is_kept h) in
    omega arith
