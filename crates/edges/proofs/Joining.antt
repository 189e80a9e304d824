-- What a table means, new and after a pair is joined. Assumes nothing.
use Rattle.std.proofs.Common.{◌≡◌, ℕ, ◌+◌, ◌-◌, ◌/◌, ◌<◌, ◌≤◌, Bool, false, not, ◌&&◌, ◌||◌, eqb, ltb, List, length, get_or, set, replicate, Ok, sym, refl, ap, ◌∙◌, subst, ap₂, inl, inr, arith, length-set}
use lib.ListN.{length-replicate, get_or-replicate, get_or-eq_default}
use Rattle.std.proofs.lemmas.Bool.{cases_Bool, cases_lt, eqb-false, eq-eqb, ne_eqb, eqb-true, lt-ltb, and_parts, not-true, not_from_true}
use Rattle.std.proofs.lemmas.Bool.Decides.{nat_tests}
use Rattle.graph.specs.Judging.{judged}
use Rattle.graph.specs.Joining.{with_pair, judge_of, join_meaning}
use Rattle.graph.specs.Shape.{Shape}
use Rattle.graph.specs.Stores.{joined_pairs, no_pairs, empty_store}
use Rattle.graph.specs.declared.pair.Pair.TheVariants.{Fresh}
use Rattle.graph.proofs.Counting.{any_witness, count_none}
use Rattle.graph.proofs.Joining.{seen_fresh, fresh_pair, added_meaning}
use Rattle.graph.proofs.Pairs.{same_shape}
use Rattle.graph.proofs.Stores.{marked_added, joined_with_pair, joined_none}
use Rattle.edges.specs.Keys.{key, place}
use Rattle.edges.specs.Lawful.{table_lawful}
use Rattle.edges.specs.Table.{has_key, landing, slot_at, table_shape, table_meaning, with_half, pairs_in, filled, Fit, table_opening}
use Rattle.edges.proofs.Adding.{Landed, gap_from, added_gapless, added_key, added_filled}
use Rattle.edges.proofs.Finding.{Gapless, empty_slot}
use Rattle.edges.proofs.Places.{key_some, key_apart, place_below}

-- two different vertices are joined by their word
pub joined_key : (n : ℕ) (words : List ℕ) (u v : ℕ) → u < n → v < n → (u ≡ v → ⊥) → (table_shape n words).joined u v ≡ has_key words (key u v)
joined_key n words u v hu hv ne = rw (lt-ltb u n hu, lt-ltb v n hv, ne_eqb u v ne)

pub table_fresh : (n : ℕ) (words : List ℕ) (u v : ℕ) (j : Bool) → j ≡ (table_shape n words).joined u v →
    Ok Fresh ≡ judged n u v (ltb u n && ltb v n) j → judge_of (table_shape n words) u v ≡ Ok Fresh
table_fresh n words u v j hj e =
    seen_fresh (table_shape n words) u v n (ltb u n) (ltb v n) j refl refl refl hj e

pub table_full : (n : ℕ) (words : List ℕ) (used : ℕ) → used ≡ pairs_in n words → length words / 2 ≤ used → (table_meaning n words).free ≡ 0
unfolding pairs_in
table_full n words used e h = omega arith

pub table_room : (n : ℕ) (words : List ℕ) (used : ℕ) → used ≡ pairs_in n words → used < length words / 2 → eqb (table_meaning n words).free 0 ≡ false
unfolding pairs_in
table_room n words used e h = ne_eqb (length words / 2 - joined_pairs (table_shape n words)) 0 (λ z. omega arith)

-- the slot of a fresh pair's word
pub landed : (n : ℕ) (words : List ℕ) (u v used : ℕ) → judge_of (table_shape n words) u v ≡ Ok Fresh → used ≡ filled words →
    used < length words / 2 → (d : ℕ) × Landed words (key u v) d
landed n words u v used e full room =
    let k = fresh_pair (table_shape n words) u v e in
    let differ = eqb-false u v k.differ in
    let none = sym (joined_key n words u v k.u_inside k.v_inside differ) ∙ k.unjoined in
    let left : filled words < length words = omega arith in
    let s = empty_slot words (key u v) left none in
    (s.0, record { some = key_some u v differ; ends = s.1.0; inside = s.1.1.0; empty = s.1.1.1 })

-- the table after the word of u and v was put in
pub record Put (n : ℕ) (words after : List ℕ) (u v : ℕ) : Type 0 where
  pub gapless : Gapless after
  pub pairs : pairs_in n after ≡ pairs_in n words + 1
  pub slots : filled after ≡ filled words + 1
  pub long : length after ≡ length words
  pub means : table_meaning n after ≡ record { shape = with_pair (table_shape n words) u v; free = (table_meaning n words).free - 1 }

pub put : (n : ℕ) (words : List ℕ) (u v d : ℕ) → Fit n (length words) → judge_of (table_shape n words) u v ≡ Ok Fresh → Gapless words →
    (l : Landed words (key u v) d) → Put n words (set words (place (length words) (key u v) d) (key u v)) u v
unfolding pairs_in
put n words u v d fit e g l =
    let k = fresh_pair (table_shape n words) u v e in
    let after : List ℕ = set words (place (length words) (key u v) d) (key u v) in
    let long : length after ≡ length words = length-set words (place (length words) (key u v) d) (key u v) in
    let most : n ≤ 512 = fit.1 in
    let hu : u < n = k.u_inside in
    let hv : v < n = k.v_inside in
    let shape : table_shape n after ≡ with_pair (table_shape n words) u v =
    marked_added n (λ a b. has_key words (key a b)) (λ a b. has_key after (key a b)) u v hu hv k.differ
    (λ a b ha hb ne. added_key words (key u v) d l (key a b) (key_some a b ne)
    ∙ ap (λ (p : Bool). has_key words (key a b) || p) (key_apart u v a b (omega arith) (omega arith) (omega arith) (omega arith))) in
    let more : joined_pairs (table_shape n after) ≡ joined_pairs (table_shape n words) + 1 =
    ap joined_pairs shape ∙ joined_with_pair (table_shape n words) u v hu hv k.differ (table_lawful n words fit.0 fit.1) k.unjoined in
    let free : length after / 2 - joined_pairs (table_shape n after) ≡ length words / 2 - joined_pairs (table_shape n words) - 1 = omega arith in
    record {
      gapless = added_gapless words (key u v) d l g;
      pairs = more;
      slots = added_filled words (key u v) d l;
      long = long;
      means = ap₂ (λ (s : Shape) (f : ℕ). record { shape = s; free = f }) shape free;
    }

-- an empty table
zero_at : (slots i : ℕ) → ◌≡◌ {A = ℕ} (get_or (replicate slots 0) i 0) 0
zero_at slots i = elim (cases_lt i slots) [
  | inl h ↦ get_or-replicate slots i 0 0 h
  | inr h ↦ let past : length (replicate slots 0) ≤ i = simp length-replicate h in get_or-eq_default (replicate slots 0) 0 past
]

pub empty_gapless : (slots : ℕ) → Gapless (replicate slots 0)
empty_gapless slots = gap_from (replicate slots 0) (λ k e d hd he hk there empty. hk (sym there ∙ zero_at slots (place (length (replicate slots 0)) k e)))

no_key : (slots k : ℕ) → (k ≡ 0 → ⊥) → has_key (replicate slots 0) k ≡ false
no_key slots k hk = elim (cases_Bool (has_key (replicate slots 0) k)) [
  | inl h ↦
      let w = any_witness (λ i. eqb (get_or (replicate slots 0) i 0) k) (length (replicate slots 0)) h in
      absurd (hk (sym (eqb-true (get_or (replicate slots 0) w.0 0) k w.1.1) ∙ zero_at slots w.0))
  | inr f ↦ f
]

pub empty_shape : (n slots : ℕ) → table_shape n (replicate slots 0) ≡ no_pairs n
empty_shape n slots = same_shape n (λ v. ltb v n) (λ u v. elim (cases_Bool ((ltb u n && ltb v n) && not (eqb u v))) [
  | inl t ↦
      let p = and_parts (ltb u n && ltb v n) (not (eqb u v)) t in
      rw t (no_key slots (key u v) (key_some u v (eqb-false u v (not-true (eqb u v) p.1))))
  | inr f ↦ rw f
])

pub empty_pairs : (n slots : ℕ) → 0 ≡ pairs_in n (replicate slots 0)
unfolding pairs_in
empty_pairs n slots = sym (ap joined_pairs (empty_shape n slots) ∙ joined_none n)

pub empty_filled : (slots : ℕ) → 0 ≡ filled (replicate slots 0)
unfolding filled
empty_filled slots = sym (count_none (λ i. not (eqb (get_or (replicate slots 0) i 0) 0)) (length (replicate slots 0))
    (λ k l. not_from_true (eqb (get_or (replicate slots 0) k 0) 0) (eq-eqb (get_or (replicate slots 0) k 0) 0 (zero_at slots k))))

pub empty_meaning : (n slots : ℕ) → table_meaning n (replicate slots 0) ≡ empty_store n (slots / 2)
empty_meaning n slots =
    let long : length (replicate {A = ℕ} slots 0) ≡ slots = length-replicate slots 0 in
    let none = joined_none n in
    let free : length (replicate {A = ℕ} slots 0) / 2 - joined_pairs (no_pairs n) ≡ slots / 2 = omega arith in
    ap (with_half (length (replicate {A = ℕ} slots 0))) (empty_shape n slots) ∙ ap (empty_store n) free

-- What writing a fresh pair's word into its slot comes to.
pub record Written (n : ℕ) (words : List ℕ) (u v slot word : ℕ) : Type 0 where
  pub inside : slot < length words
  pub gapless : Gapless (set words slot word)
  pub pairs : pairs_in n words + 1 ≡ pairs_in n (set words slot word)
  pub slots : filled words + 1 ≡ filled (set words slot word)
  pub long : length (set words slot word) ≡ length words
  pub after : table_meaning n (set words slot word) ≡ join_meaning (table_meaning n words) u v

pub written : (n : ℕ) (words : List ℕ) (u v used slot word : ℕ) → Fit n (length words) → Gapless words → used ≡ pairs_in n words →
    used ≡ filled words → judge_of (table_shape n words) u v ≡ Ok Fresh → used < length words / 2 → word ≡ key u v →
    slot ≡ slot_at words word (landing words word) → Written n words u v slot word
written n words u v used slot word fit g ep ef e room ew es =
    let w = landed n words u v used e ef room in
    let d : ℕ = w.0 in
    let l = w.1 in
    let at : slot ≡ place (length words) (key u v) d =
    es ∙ (ap (λ (k : ℕ). slot_at words k (landing words k)) ew ∙ ap (slot_at words (key u v)) l.ends) in
    let same : set words slot word ≡ set words (place (length words) (key u v) d) (key u v) = ap₂ (λ (i x : ℕ). set words i x) at ew in
    let p = put n words u v d fit e g l in
    let below = place_below (length words) (key u v) d l.inside in
    record {
      inside = omega arith;
      gapless = subst Gapless (sym same) p.gapless;
      pairs = sym (ap (pairs_in n) same ∙ p.pairs);
      slots = sym (ap filled same ∙ p.slots);
      long = length-set words slot word;
      after = ap (table_meaning n) same ∙ (p.means ∙ sym (added_meaning (table_meaning n words) u v e (table_room n words used ep room)));
    }

pub granted_fit : (n slots : ℕ) → table_opening n slots ≡ Ok tt → Fit n slots
granted_fit n slots e = grind (arith, nat_tests)
