-- The base of an opening. Assumes nothing.
use Rattle.std.proofs.Common.{◌≡◌, ℕ, ◌+◌, ◌<◌, ◌≤◌, true, ltb, None, Option, arith}
use Rattle.std.proofs.lemmas.Bool.{and_parts, and_from, or_left, or_right, lt-ltb, ne_eqb, not_from_false, false≢true, true_from_ne_false}
use Rattle.graph.specs.Shape.{Lawful}
use Rattle.graph.specs.Views.{is_chosen}
use Rattle.classes.specs.declared.class.Class.{Class}
use Rattle.classes.specs.declared.class.Class.TheVariants.{Zero, One}
use Rattle.graph.proofs.Keeping.{class_is_view}
use Rattle.graph.proofs.Clique.{clique_is_view}
use Rattle.session_laws.specs.Bank.{Bank, Usable, first_of, is_register, classes_under}
use Rattle.session_laws.specs.Base.{Opening, SoundBase, own_class, opened_graph, base_of}

registers_low : (c : Class) (k : ℕ) → k ≤ 16 → first_of c + k ≤ 32
registers_low Zero k h = omega arith
registers_low One k h = omega arith

-- below 32 what is of the bank's class is a register of it
chosen_low : (k : Bank) (classes : ℕ → Option Class) (v : ℕ) → v < 32 → is_chosen k.class (classes_under k classes v) ≡ true →
    is_register k v ≡ true
chosen_low k classes v h e = true_from_ne_false (is_register k v) (λ n.
    let low : ltb v 32 ≡ true = lt-ltb v 32 h in
    let none : classes_under k classes v ≡ None = rw (low, n) in
    false≢true (rw none at e))

pub base_sound : (o : Opening) → Lawful o.given → Usable o.bank → SoundBase (base_of o)
base_sound o l usable = record {
  lawful = (clique_is_view (is_register o.bank)).keeps_laws (own_class o)
      ((class_is_view (classes_under o.bank o.classes) o.bank.class).keeps_laws o.given l);
  some = usable.least;
  low = registers_low o.bank.class o.bank.registers usable.most;
  registers_fixed = λ v stands h.
      and_from (is_register o.bank v) ((own_class o).stands v)
      (chosen_low o.bank o.classes v h
      (and_parts (o.given.stands v) (is_chosen o.bank.class (classes_under o.bank o.classes v)) stands).1) stands;
  clique = λ u v fu fv ne. or_right ((own_class o).joined u v) _ (and_from _ _ (and_from _ _ fu fv) (not_from_false _ (ne_eqb u v ne)));
}

-- vertices of the session that are joined in the given graph are joined in its base
pub given_joined : (o : Opening) (u v : ℕ) → (own_class o).stands u ≡ true → (own_class o).stands v ≡ true → o.given.joined u v ≡ true →
    (opened_graph o).joined u v ≡ true
given_joined o u v hu hv j =
    or_left ((own_class o).joined u v) _ (and_from (o.given.joined u v) _ j
    (and_from _ _ (and_parts (o.given.stands u) _ hu).1 (and_parts (o.given.stands v) _ hv).1))
