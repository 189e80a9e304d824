-- Merge tables stay settled; what a test on two answers tells. Assumes nothing.
use Rattle.std.proofs.Common.{◌≡◌, ℕ, ◌<◌, ◌≤◌, min, max, Bool, true, ◌&&◌, eqb, ltb, leb, List, length, get_or, sym, ap, ◌∙◌, subst, ap₂, inl, inr, arith}
use mathlib.Core.Path.{fun_ext}
use lib.ListN.{get_or-eq_default}
use Rattle.std.proofs.lemmas.Bool.{and_parts, and_from, leb-true, le-leb, eqb-true, eq-eqb, ne_eqb, cases_eq, cases_lt, lt-ltb, cond-true, cond-false}
use Rattle.views.specs.Groups.{group_at, settled_at, renamed, united, merged_groups}

-- a test on two answers, as a test on what they answer
pub both_tests : (t r v : ℕ) (j s b : Bool) → r ≡ t → s ≡ j → (eqb r v && s) ≡ b → (eqb t v && j) ≡ b
both_tests t r v j s b e f h = rw (sym e, sym f) h

-- a table is settled where every name lies no higher and is its own
pub settled_from : (table : ℕ → ℕ) (v : ℕ) → table v ≤ v → table (table v) ≡ table v → settled_at table v ≡ true
settled_from table v h e = and_from (leb (table v) v) (eqb (table (table v)) (table v)) (le-leb (table v) v h) (eq-eqb (table (table v)) (table v) e)

pub settled_low : (table : ℕ → ℕ) (v : ℕ) → settled_at table v ≡ true → table v ≤ v
settled_low table v h = leb-true (table v) v (and_parts (leb (table v) v) (eqb (table (table v)) (table v)) h).0

pub settled_own : (table : ℕ → ℕ) (v : ℕ) → settled_at table v ≡ true → table (table v) ≡ table v
settled_own table v h = eqb-true (table (table v)) (table v) (and_parts (leb (table v) v) (eqb (table (table v)) (table v)) h).1

pub renamed_hit : (table : ℕ → ℕ) (high low w : ℕ) → table w ≡ high → renamed table high low w ≡ low
renamed_hit table high low w e = cond-true {A = ℕ} (eqb (table w) high) low (table w) (eq-eqb (table w) high e)

pub renamed_miss : (table : ℕ → ℕ) (high low w : ℕ) → (table w ≡ high → ⊥) → renamed table high low w ≡ table w
renamed_miss table high low w e = cond-false {A = ℕ} (eqb (table w) high) low (table w) (ne_eqb (table w) high e)

-- a name that is its own keeps being so, whether it is the lower or not touched
renamed_low : (table : ℕ → ℕ) (high low : ℕ) → table low ≡ low → renamed table high low low ≡ low
renamed_low table high low e = elim (cases_eq (table low) high) [
  | inl hit ↦ renamed_hit table high low low hit
  | inr miss ↦ renamed_miss table high low low miss ∙ e
]

pub renamed_settled : (table : ℕ → ℕ) (high low : ℕ) → ((v : ℕ) → settled_at table v ≡ true) → low ≤ high → table low ≡ low →
    (w : ℕ) → settled_at (renamed table high low) w ≡ true
renamed_settled table high low s le e w = elim (cases_eq (table w) high) [
  | inl hit ↦
      let is : renamed table high low w ≡ low = renamed_hit table high low w hit in
      let below : table w ≤ w = settled_low table w (s w) in
      settled_from (renamed table high low) w (omega arith)
      (ap (renamed table high low) is ∙ (renamed_low table high low e ∙ sym is))
  | inr miss ↦
      let is : renamed table high low w ≡ table w = renamed_miss table high low w miss in
      let below : table w ≤ w = settled_low table w (s w) in
      let own : table (table w) ≡ table w = settled_own table w (s w) in
      settled_from (renamed table high low) w (omega arith)
      (ap (renamed table high low) is ∙ (renamed_miss table high low (table w) (λ h. miss (sym own ∙ h)) ∙ (own ∙ sym is)))
]

-- a list of 512 whose places are known is known everywhere, if numbers past its end are alone before and after
pub known_group : (to : List ℕ) (f : ℕ → ℕ) → length to ≡ 512 → ((w : ℕ) → w < 512 → get_or to w w ≡ f w) →
    ((w : ℕ) → 512 ≤ w → f w ≡ w) → group_at to ≡ f
known_group to f whole each alone = fun_ext (λ w. elim (cases_lt w 512) [
  | inl h ↦ each w h
  | inr h ↦ let past : length to ≤ w = omega arith in get_or-eq_default to w past ∙ sym (alone w h)
])

pub alone_past : (to : List ℕ) → length to ≡ 512 → (w : ℕ) → 512 ≤ w → group_at to w ≡ w
alone_past to whole w h = let past : length to ≤ w = omega arith in get_or-eq_default to w past

-- the lower of two names is its own, in a settled table
pub lower_own : (table : ℕ → ℕ) → ((v : ℕ) → settled_at table v ≡ true) → (u v : ℕ) →
    table (min (table u) (table v)) ≡ min (table u) (table v)
lower_own table s u v = elim (cases_lt (table u) (table v)) [
  | inl h ↦ let is : min (table u) (table v) ≡ table u = omega arith in rw is (settled_own table u (s u))
  | inr h ↦ let is : min (table u) (table v) ≡ table v = omega arith in rw is (settled_own table v (s v))
]

-- what renaming the places of a table makes of the whole
pub united_group : (to after : List ℕ) (u v : ℕ) → length to ≡ 512 → length after ≡ 512 →
    ((v : ℕ) → settled_at (group_at to) v ≡ true) → u < 512 → v < 512 →
    ((w : ℕ) → w < 512 → get_or after w w ≡ united (group_at to) u v w) → group_at after ≡ united (group_at to) u v
united_group to after u v whole kept s hu hv each = known_group after (united (group_at to) u v) kept each (λ w h.
    let table : ℕ → ℕ = group_at to in
    let alone : table w ≡ w = alone_past to whole w h in
    let lu : table u ≤ u = settled_low table u (s u) in
    let lv : table v ≤ v = settled_low table v (s v) in
    let apart : table w ≡ max (table u) (table v) → ⊥ = λ e. omega arith in
    renamed_miss table (max (table u) (table v)) (min (table u) (table v)) w apart ∙ alone)

pub same_settled : (f g : ℕ → ℕ) → f ≡ g → (v : ℕ) → settled_at g v ≡ true → settled_at f v ≡ true
same_settled f g e v h = subst (λ (t : ℕ → ℕ). settled_at t v ≡ true) (sym e) h

pub merge_group : (to after : List ℕ) (u v a b : ℕ) → length to ≡ 512 → ((v : ℕ) → settled_at (group_at to) v ≡ true) →
    u < length to → v < length to → a ≡ group_at to u → b ≡ group_at to v → length after ≡ 512 →
    ((w : ℕ) → w < 512 → get_or after w w ≡ renamed (group_at to) (max a b) (min a b) w) → group_at after ≡ united (group_at to) u v
merge_group to after u v a b whole s hu hv ea eb kept each =
    united_group to after u v whole kept s (omega arith) (omega arith)
    (λ w h. each w h ∙ ap₂ (λ (x y : ℕ). renamed (group_at to) (max x y) (min x y) w) ea eb)

pub united_settled : (table : ℕ → ℕ) → ((v : ℕ) → settled_at table v ≡ true) → (u v w : ℕ) → settled_at (united table u v) w ≡ true
united_settled table s u v w =
    let lower : min (table u) (table v) ≤ max (table u) (table v) = omega arith in
    renamed_settled table (max (table u) (table v)) (min (table u) (table v)) s lower (lower_own table s u v) w

pub united_merged : (table : ℕ → ℕ) (u v : ℕ) → u < 512 → v < 512 → united table u v ≡ merged_groups table u v
united_merged table u v hu hv =
    let t : (ltb u 512 && ltb v 512) ≡ true = and_from (ltb u 512) (ltb v 512) (lt-ltb u 512 hu) (lt-ltb v 512 hv) in
    fun_ext (λ w. sym (cond-true {A = ℕ} (ltb u 512 && ltb v 512) (united table u v w) (table w) t))
