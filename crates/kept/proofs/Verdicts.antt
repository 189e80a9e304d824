-- What the tests in the code make of the outcomes. Assumes nothing.
use Rattle.std.proofs.Common.{◌≡◌, ℕ, ◌<◌, ◌≤◌, Bool, true, false, cond, not, ◌&&◌, ◌||◌, ltb, leb, length, sym, refl, ap, ◌∙◌, arith}
use Rattle.std.proofs.lemmas.Bool.{lt-ltb, le-ltb}
use Rattle.std.proofs.lemmas.Bool.Decides.{nat_tests}
use Rattle.graph.specs.Counting.{any}
use Rattle.graph.specs.Shape.{Shape, degree}
use Rattle.session_laws.specs.Base.{Base, fixed}
use Rattle.session_laws.specs.State.{State, standing_graph, is_loose}
use Rattle.session_laws.specs.Calls.{Call, Outcome, refused, noted}
use Rattle.session_laws.specs.Outcomes.{outcome, at_vertex, note_outcome, low_degree, some_loose}
use Rattle.session_laws.specs.Runs.{called, left_by}
use Rattle.standing.specs.Standing.{graph_of, fixed_in, light_at, light_loose}
use Rattle.kept.specs.Kept.{base_of, state_of, ByRules}
use Rattle.kept.specs.declared.kept.Kept.{Kept}
use Rattle.kept.proofs.Facts.{graph_is}

pub size_is : (k : Kept) → (graph_of k.standing).size ≡ (base_of k).graph.size
size_is k = ap (λ (g : Shape). g.size) (graph_is k)

pub stands_is : (k : Kept) (v : ℕ) → (graph_of k.standing).stands v ≡ (standing_graph (base_of k) (state_of k)).stands v
stands_is k v = ap (λ (g : Shape). g.stands v) (graph_is k)

pub joined_is : (k : Kept) (u v : ℕ) → (graph_of k.standing).joined u v ≡ (standing_graph (base_of k) (state_of k)).joined u v
joined_is k u v = ap (λ (g : Shape). g.joined u v) (graph_is k)

pub fixed_is : (k : Kept) (v : ℕ) → fixed_in k.standing v ≡ fixed (base_of k) v
unfolding base_of
fixed_is k v = refl

pub light_is : (k : Kept) (v : ℕ) → light_at k.standing v ≡ low_degree (base_of k) (state_of k) v
unfolding base_of
light_is k v = ap (λ (g : Shape). ltb (degree g v) (base_of k).registers) (graph_is k)

pub any_light_is : (k : Kept) → any (light_loose k.standing) (graph_of k.standing).size ≡ some_loose (base_of k) (state_of k) (low_degree (base_of k) (state_of k))
unfolding base_of
any_light_is k =
    ap (λ (g : Shape). any (λ v. (g.stands v && not (fixed (base_of k) v)) && ltb (degree g v) (base_of k).registers) g.size) (graph_is k)

pub any_loose_is : (k : Kept) → any (λ v. (graph_of k.standing).stands v && not (fixed_in k.standing v)) (graph_of k.standing).size ≡ any (is_loose (base_of k) (state_of k)) (base_of k).graph.size
unfolding base_of
any_loose_is k = ap (λ (g : Shape). any (λ v. g.stands v && not (fixed (base_of k) v)) g.size) (graph_is k)

-- ---- a call that names a vertex

cond_gone : (x y : Bool) (p q r : Outcome) → x ≡ true → y ≡ false → cond x (cond y p q) r ≡ q
cond_gone x y p q r e f = rw (e, f)

cond_there : (x y : Bool) (p q r : Outcome) → x ≡ true → y ≡ true → cond x (cond y p q) r ≡ p
cond_there x y p q r e f = rw (e, f)

pub vertex_none : (k : Kept) (v : ℕ) (o : Outcome) → (graph_of k.standing).size ≤ v → at_vertex (base_of k) (state_of k) v o ≡ refused 13
vertex_none k v o h =
    let n : (graph_of k.standing).size ≡ (base_of k).graph.size = size_is k in
    let e : ltb v (base_of k).graph.size ≡ false = le-ltb v (base_of k).graph.size (omega arith) in
    rw e

pub vertex_gone : (k : Kept) (v : ℕ) (o : Outcome) → v < (graph_of k.standing).size → (graph_of k.standing).stands v ≡ false →
    at_vertex (base_of k) (state_of k) v o ≡ refused 14
vertex_gone k v o l h =
    let n : (graph_of k.standing).size ≡ (base_of k).graph.size = size_is k in
    let e : ltb v (base_of k).graph.size ≡ true = lt-ltb v (base_of k).graph.size (omega arith) in
    let f : (standing_graph (base_of k) (state_of k)).stands v ≡ false = sym (stands_is k v) ∙ h in
    cond_gone _ _ o (refused 14) (refused 13) e f

pub vertex_there : (k : Kept) (v : ℕ) (o : Outcome) → v < (graph_of k.standing).size → (graph_of k.standing).stands v ≡ true →
    at_vertex (base_of k) (state_of k) v o ≡ o
vertex_there k v o l h =
    let n : (graph_of k.standing).size ≡ (base_of k).graph.size = size_is k in
    let e : ltb v (base_of k).graph.size ≡ true = lt-ltb v (base_of k).graph.size (omega arith) in
    let f : (standing_graph (base_of k) (state_of k)).stands v ≡ true = sym (stands_is k v) ∙ h in
    cond_there _ _ o (refused 14) (refused 13) e f

-- what the condition of a call makes of its outcome
pub by_verdict : (k : Kept) (v : ℕ) (c : Call) (o said : Outcome) (granted condition : Bool) →
    outcome (base_of k) (state_of k) c ≡ at_vertex (base_of k) (state_of k) v (cond condition o (refused 17)) → granted ≡ condition →
    said ≡ at_vertex (base_of k) (state_of k) v (cond granted o (refused 17)) → said ≡ outcome (base_of k) (state_of k) c
by_verdict k v c o said granted condition rule is e = e ∙ (ap (λ x. at_vertex (base_of k) (state_of k) v (cond x o (refused 17))) is ∙ sym rule)

-- ---- note

outside : (n u v : ℕ) → (leb n u || leb n v) ≡ true → (ltb u n && ltb v n) ≡ false
outside n u v h = grind (arith, nat_tests)

within : (n u v : ℕ) → (leb n u || leb n v) ≡ false → (ltb u n && ltb v n) ≡ true
within n u v h = grind (arith, nat_tests)

module _ (k : Kept) (u v n : ℕ) (size : n ≡ (graph_of k.standing).size) where
  high : (w : ℕ) → n ≤ w → ltb w (base_of k).graph.size ≡ false
  high w h = let e : n ≡ (base_of k).graph.size = size ∙ size_is k in le-ltb w _ (omega arith)

  low : (w : ℕ) → w < n → ltb w (base_of k).graph.size ≡ true
  low w h = let e : n ≡ (base_of k).graph.size = size ∙ size_is k in lt-ltb w _ (omega arith)

  first_high : (x y : Bool) (p q : Outcome) → x ≡ false → cond (x && y) p q ≡ q
  first_high x y p q e = rw e

  second_high : (x y : Bool) (p q : Outcome) → x ≡ true → y ≡ false → cond (x && y) p q ≡ q
  second_high x y p q e f = rw (e, f)

  both_low : (x y : Bool) (p q : Outcome) → x ≡ true → y ≡ true → cond (x && y) p q ≡ p
  both_low x y p q e f = rw (e, f)

  pub note_first : n ≤ u → note_outcome (base_of k) (state_of k) u v ≡ refused 13
  note_first h = first_high _ _ _ (refused 13) (high u h)

  pub note_second : u < n → n ≤ v → note_outcome (base_of k) (state_of k) u v ≡ refused 13
  note_second l h = second_high _ _ _ (refused 13) (low u l) (high v h)

  module _ (lu : u < n) (lv : v < n) where
    pub note_first_gone : (graph_of k.standing).stands u ≡ false → note_outcome (base_of k) (state_of k) u v ≡ refused 14
    note_first_gone e = both_low _ _ _ (refused 13) (low u lu) (low v lv) ∙ first_high _ _ _ (refused 14) (sym (stands_is k u) ∙ e)

    module _ (su : (graph_of k.standing).stands u ≡ true) where
      pub note_second_gone : (graph_of k.standing).stands v ≡ false → note_outcome (base_of k) (state_of k) u v ≡ refused 14
      note_second_gone e = both_low _ _ _ (refused 13) (low u lu) (low v lv) ∙ second_high _ _ _ (refused 14) (sym (stands_is k u) ∙ su) (sym (stands_is k v) ∙ e)

      module _ (sv : (graph_of k.standing).stands v ≡ true) where
        pub note_both : note_outcome (base_of k) (state_of k) u v ≡ cond (ltb (length (state_of k).moves) 128) (noted (length (state_of k).moves) u v) (refused 16)
        note_both = both_low _ _ _ (refused 13) (low u lu) (low v lv) ∙ both_low _ _ _ (refused 14) (sym (stands_is k u) ∙ su) (sym (stands_is k v) ∙ sv)

-- ---- what is left

-- of any base and state
pub refused_leaves : (b : Base) (s : State) (c : Call) (n : ℕ) → refused n ≡ outcome b s c → s ≡ called b s c
unfolding left_by
refused_leaves b s c n e = ap (left_by s) e

pub granted_leaves : (b : Base) (s : State) (c : Call) (o : Outcome) → o ≡ outcome b s c → left_by s o ≡ called b s c
granted_leaves b s c o e = ap (left_by s) e

-- of a session
pub refused_rules : (k : Kept) (c : Call) (n : ℕ) → refused n ≡ outcome (base_of k) (state_of k) c → ByRules k k c (refused n)
unfolding left_by
refused_rules k c n e = record { answer = e; base = refl; state = ap (left_by (state_of k)) e }

pub granted_rules : (k after : Kept) (c : Call) (o : Outcome) → o ≡ outcome (base_of k) (state_of k) c →
    base_of after ≡ base_of k → state_of after ≡ left_by (state_of k) o → ByRules k after c o
granted_rules k after c o e base state = record { answer = e; base = base; state = state ∙ ap (left_by (state_of k)) e }
