-- Tables filled and renamed place by place. Assumes nothing.
use Rattle.std.proofs.Common.{◌≡◌, ℕ, ◌+◌, ◌<◌, ◌≤◌, ◌≢◌, List, length, get_or, set, sym, refl, ◌∙◌, inl, inr, arith, length-set, get_or-set_other, get_or-set_same}
use Rattle.std.proofs.lemmas.List.{get_or_default}
use Rattle.std.proofs.lemmas.Bool.{cases_eq}
use Rattle.views.specs.Groups.{group_at, renamed}
use Rattle.views.proofs.Groups.{known_group, renamed_hit, renamed_miss}

-- the first v places hold their own numbers
abbrev pub Filled : List ℕ → ℕ → Type 0
Filled to v = (length to ≡ 512) × ((k : ℕ) → k < v → get_or to k k ≡ k)

pub filled_more : (to : List ℕ) (v : ℕ) → v < 512 → Filled to v → Filled (set to v v) (v + 1)
filled_more to v h f = (
  length-set to v v ∙ f.0,
  λ k below. elim (cases_eq k v) [
    | inl same ↦ let inside : k < length to = omega (arith, f.0) in rw (sym same) (get_or-set_same to k k k inside)
    | inr other ↦ get_or-set_other to v k v k other ∙ f.1 k (omega arith)
  ],
)

-- the first w places are renamed, the others as they were
abbrev pub Renaming : List ℕ → ℕ → ℕ → List ℕ → ℕ → Type 0
Renaming from high low to w =
    (length to ≡ 512)
    × ((k : ℕ) → k < w → get_or to k k ≡ renamed (group_at from) high low k)
    × ((k : ℕ) → w ≤ k → get_or to k k ≡ get_or from k k)

pub renaming_hit : (from : List ℕ) (high low : ℕ) (to : List ℕ) (w : ℕ) → w < 512 → get_or to w 0 ≡ high →
    Renaming from high low to w → Renaming from high low (set to w low) (w + 1)
renaming_hit from high low to w h e r =
    let inside : w < length to = omega (arith, r.0) in
    let was : get_or from w w ≡ high = sym (r.2 w (omega arith)) ∙ (get_or_default to w w 0 inside ∙ e) in (
      length-set to w low ∙ r.0,
      λ k below. elim (cases_eq k w) [
        | inl same ↦ rw same (get_or-set_same to w low w inside ∙ sym (renamed_hit (group_at from) high low w was))
        | inr other ↦ get_or-set_other to w k low k other ∙ r.1 k (omega arith)
      ],
      λ k above. let other : k ≢ w = omega arith in get_or-set_other to w k low k other ∙ r.2 k (omega arith),
    )

pub renaming_miss : (from : List ℕ) (high low : ℕ) (to : List ℕ) (w : ℕ) → w < 512 → (get_or to w 0 ≡ high → ⊥) →
    Renaming from high low to w → Renaming from high low to (w + 1)
renaming_miss from high low to w h e r =
    let inside : w < length to = omega (arith, r.0) in
    let same-there : get_or to w w ≡ get_or from w w = r.2 w (omega arith) in
    let is-not : get_or from w w ≡ high → ⊥ = λ hit. e (get_or_default to w 0 w inside ∙ (same-there ∙ hit)) in (
      r.0,
      λ k below. elim (cases_eq k w) [
        | inl same ↦ rw same (same-there ∙ sym (renamed_miss (group_at from) high low w is-not))
        | inr other ↦ r.1 k (omega arith)
      ],
      λ k above. r.2 k (omega arith),
    )

pub filled_alone : (to : List ℕ) (v : ℕ) → 512 ≤ v → Filled to v → group_at to ≡ (λ w. w)
filled_alone to v h f = known_group to (λ w. w) f.0 (λ w below. f.1 w (omega arith)) (λ w past. refl)
