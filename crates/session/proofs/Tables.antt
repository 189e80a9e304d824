-- Tables by which a graph is looked at. Assumes nothing.
use Rattle.std.proofs.Common.{◌≡◌, ℕ, ◌+◌, ◌<◌, ◌≤◌, Bool, false, ◌&&◌, ltb, leb, List, length, get_or, set, None, Option, sym, ap, ◌∙◌, ap₂, inl, inr, arith, length-set}
use mathlib.Core.Path.{fun_ext}
use Rattle.std.proofs.lemmas.Bool.{cases_lt, le-ltb, and_parts, leb-true}
use Rattle.std.proofs.lemmas.Bool.Decides.{nat_tests}
use Rattle.std.proofs.lemmas.List.{get_or-set_same, get_or-set_other, get_or_past}
use Rattle.graph.specs.Shape.{Shape, Lawful}
use Rattle.graph.specs.Views.{clique_view, class_view}
use Rattle.classes.specs.declared.class.Class.{Class}
use Rattle.classes.specs.declared.class.Class.TheVariants.{Zero, One}
use Rattle.board.specs.Boards.{opened_graph}
use Rattle.board.specs.declared.board.Board.{Board}
use Rattle.session_laws.specs.Bank.{first_of, is_register, classes_under}
use Rattle.session_laws.specs.Base.{SoundBase, base_of}
use Rattle.session_laws.proofs.Openings.{base_sound}
use Rattle.standing.specs.Sound.{base_over}
use Rattle.views.specs.declared.class.ClassLook.{ClassLook}
use Rattle.views.specs.declared.clique.CliqueLook.{CliqueLook}
use Rattle.views.specs.declared.view.View.{View}
use Rattle.views.specs.Tables.{flag, class_at, class_by, clique_by}
use Rattle.session.specs.Banks.{bank_of, opening_over}
use Rattle.session.specs.declared.bank.Bank.{Bank}

first_low : (c : Class) → first_of c ≤ 16
first_low Zero = omega arith
first_low One = omega arith

pub registers_few : (b : Bank) → (1 ≤ b.registers) × (b.registers ≤ 16)
registers_few b = let p = and_parts (leb 1 b.registers) (leb b.registers 16) b.usable in (leb-true 1 b.registers p.0, leb-true b.registers 16 p.1)

pub no_register : (b : Bank) (v : ℕ) → 32 ≤ v → is_register (bank_of b) v ≡ false
no_register b v h =
    let f : first_of b.class ≤ 16 = first_low b.class in
    let r : b.registers ≤ 16 = (registers_few b).1 in
    let e : ltb v (first_of b.class + b.registers) ≡ false = le-ltb v _ (omega arith) in
    no_and (leb (first_of b.class) v) _ e
  where
    no_and : (x y : Bool) → y ≡ false → (x && y) ≡ false
    no_and x y e = grind (arith, nat_tests)

-- places below i of a table are as they should be, the others as they were
abbrev pub SetBelow : {X : Type 0} → (ℕ → X) → (ℕ → X) → X → List X → ℕ → Type 0
SetBelow want was d xs i = (length xs ≡ 512) × ((w : ℕ) → w < i → get_or xs w d ≡ want w) × ((w : ℕ) → i ≤ w → get_or xs w d ≡ was w)

pub set_more : {X : Type 0} (want was : ℕ → X) (d : X) (xs : List X) (i : ℕ) (x : X) → i < 512 → x ≡ want i → SetBelow want was d xs i →
    SetBelow want was d (set xs i x) (i + 1)
set_more want was d xs i x low is so_far =
    let long : length xs ≡ 512 = so_far.0 in (
      length-set xs i x ∙ long,
      λ w l. elim (cases_lt w i) [
        | inl below ↦ get_or-set_other xs i w x d (λ e. omega arith) ∙ so_far.1 w below
        | inr above ↦
            let e : w ≡ i = omega arith in
            let now : get_or (set xs i x) i d ≡ want i = get_or-set_same xs i x d (omega arith) ∙ is in
            rw e now
      ],
      λ w l. get_or-set_other xs i w x d (λ e. omega arith) ∙ so_far.2 w (omega arith),
    )

pub set_all : {X : Type 0} (want was : ℕ → X) (d : X) (xs : List X) (i : ℕ) → 512 ≤ i → SetBelow want was d xs i → ((w : ℕ) → 512 ≤ w → want w ≡ d) →
    (w : ℕ) → get_or xs w d ≡ want w
set_all want was d xs i end h out w = elim (cases_lt w 512) [
  | inl l ↦ h.1 w (omega arith)
  | inr l ↦ let long : length xs ≡ 512 = h.0 in get_or_past xs w d (omega arith) ∙ sym (out w l)
]

-- the graph that is read is the one that the rules speak of
pub opened_base : (given : Shape) (b : Bank) (classes under : List (Option Class)) (flags : List Bool) (board : Board) →
    opened_graph board ≡ clique_by flags (class_by under b.class given) → ((v : ℕ) → flag flags v ≡ is_register (bank_of b) v) →
    ((v : ℕ) → class_at under v ≡ classes_under (bank_of b) (class_at classes) v) →
    base_over board (first_of b.class) b.registers ≡ base_of (opening_over given b classes)
opened_base given b classes under flags board graph ef ec =
    ap (λ (g : Shape). record { graph = g; first = first_of b.class; registers = b.registers })
    (graph ∙ ap₂ (λ (f : ℕ → Bool) (c : ℕ → Option Class). clique_view f (class_view c b.class given)) (fun_ext ef) (fun_ext ec))

pub opened_sound : (given : Shape) → Lawful given → (b : Bank) (classes : List (Option Class)) → SoundBase (base_of (opening_over given b classes))
opened_sound given l b classes = base_sound (opening_over given b classes) l (record { least = (registers_few b).0; most = (registers_few b).1 })

pub past_classes : (b : Bank) (classes : List (Option Class)) → length classes ≡ 512 → (w : ℕ) → 512 ≤ w →
    classes_under (bank_of b) (class_at classes) w ≡ None
past_classes b classes long w h =
    let e : ltb w 32 ≡ false = le-ltb w 32 (omega arith) in
    let past : class_at classes w ≡ None = get_or_past classes w None (omega arith) in
    rw e past

-- what the two views show of a graph
pub view_shape : {X : Type 0} (m : X → Shape) (outer : View CliqueLook (View ClassLook X)) (inner : View ClassLook X) (graph : X) (under : List (Option Class))
    (class chosen : Class) (flags : List Bool) → outer.below ≡ inner → outer.look.fixed ≡ flags → inner.below ≡ graph → inner.look.classes ≡ under →
    inner.look.chosen ≡ class → class ≡ chosen →
    clique_by outer.look.fixed (class_by outer.below.look.classes outer.below.look.chosen (m outer.below.below)) ≡ clique_by flags (class_by under chosen (m graph))
view_shape {X} m outer inner graph under class chosen flags eo ef eg eu ec ek =
    ap₂ clique_by ef (ap (λ (x : View ClassLook X). class_by x.look.classes x.look.chosen (m x.below)) eo ∙
    (ap (λ (u : List (Option Class)). class_by u inner.look.chosen (m inner.below)) eu ∙
    (ap (λ (k : Class). class_by under k (m inner.below)) (ec ∙ ek) ∙ ap (λ (x : X). class_by under chosen (m x)) eg)))
