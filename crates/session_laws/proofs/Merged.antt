-- Merging two vertices of a graph by Briggs's or George's test. Assumes nothing.
use Rattle.std.proofs.Common.{◌≡◌, ℕ, Bool, sym, refl, ◌∙◌, inl, inr}
use Rattle.graph.specs.Shape.{Shape}
use Rattle.graph.proofs.Merging.{merged_is_view}
use Rattle.session_laws.specs.Merging.{merged_pair, TwoVertices, BriggsKeeps, GeorgeKeeps, GeorgeKeepsTurned, EmptiesDecides}
use Rattle.session_laws.specs.Runs.{united}
use Rattle.session_laws.proofs.Cores.{emptied_no_core, no_core_emptied}
use Rattle.session_laws.proofs.Merges.{Merging, briggs_no_core, george_no_core, briggs_few, george_covers}
use Rattle.session_laws.proofs.Peeling.{empties_decides}
use Rattle.session_laws.proofs.Standing.{name_parts, meet_parts}
use Rattle.session_laws.proofs.Turned.{turned_no_core}
use Rattle.session_laws.proofs.Uniting.{united_moved, united_other, united_x}

pair_merging : (fixed : ℕ → Bool) (s : Shape) (x y : ℕ) → TwoVertices fixed s x y → Merging fixed s (merged_pair x y s) x y
pair_merging fixed s x y h = record {
  size = refl;
  stood = λ v e. let n = name_parts into s v e in (n.is_vertex, not_y v n.is_own);
  others = λ u v j u≠x v≠x.
      let met = meet_parts into s u v j in
      let a : met.near ≡ u = united_other (λ w. w) y x met.near u met.near_of u≠x in
      let c : met.far ≡ v = united_other (λ w. w) y x met.far v met.far_of v≠x in
      rw (a, c) at met.met;
  either = λ v j.
      let met = meet_parts into s x v j in
      let c : met.far ≡ v = united_other (λ w. w) y x met.far v met.far_of (λ e. met.two (sym e)) in
      elim (united_x (λ w. w) y x met.near met.near_of) [
        | inl a ↦ inl (rw (a, c) at met.met)
        | inr a ↦ inr (rw (a, c) at met.met)
      ];
  y_stood = h.other_stands;
  y_loose = h.other_loose;
  lawful_s = h.lawful;
  lawful_t = (merged_is_view into).keeps_laws s h.lawful;
}
  where
    into : ℕ → ℕ
    into = united (λ v. v) y x

    not_y : (v : ℕ) → into v ≡ v → v ≡ y → ⊥
    not_y v e i = h.two (sym (united_moved (λ w. w) y x v i) ∙ (e ∙ i))

pub briggs_keeps : BriggsKeeps
briggs_keeps fixed k s x y h fx test e =
    let m = pair_merging fixed s x y h in
    no_core_emptied fixed k (merged_pair x y s) m.lawful_t
    (briggs_no_core fixed k s (merged_pair x y s) x y m fx (briggs_few fixed k s x y test) (emptied_no_core fixed k s h.lawful e))

pub george_keeps : GeorgeKeeps
george_keeps fixed k s x y h test e =
    let m = pair_merging fixed s x y h in
    no_core_emptied fixed k (merged_pair x y s) m.lawful_t
    (george_no_core fixed k s (merged_pair x y s) x y m (george_covers fixed k s h.lawful x y test) (emptied_no_core fixed k s h.lawful e))

pub george_keeps_turned : GeorgeKeepsTurned
george_keeps_turned fixed k s x y h fx test e =
    let m = pair_merging fixed s x y h in
    no_core_emptied fixed k (merged_pair x y s) m.lawful_t
    (turned_no_core fixed k s (merged_pair x y s) x y m fx (george_covers fixed k s h.lawful y x test)
    (emptied_no_core fixed k s h.lawful e))

pub emptying_decided : EmptiesDecides
emptying_decided = empties_decides
