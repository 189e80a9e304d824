-- What a session is opened over, and the graph that it works on. Assumes nothing.
use Rattle.std.specs.Prelude.{◌≡◌, ℕ, ◌+◌, ◌<◌, ◌≤◌, Bool, true, ◌&&◌, Option, ◌≢◌}
use Rattle.graph.specs.Shape.{Shape, Lawful}
use Rattle.graph.specs.Views.{class_view, clique_view}
use Rattle.classes.specs.declared.class.Class.{Class}
use Rattle.session_laws.specs.Bank.{Bank, first_of, among, is_register, classes_under}

pub record Opening : Type 0 where
  pub given : Shape
  pub bank : Bank
  pub classes : ℕ → Option Class

-- the vertices of the bank's class: the vertices of the session
abbrev pub own_class : Opening → Shape
own_class o = class_view (classes_under o.bank o.classes) o.bank.class o.given

-- registers differ from one another, so those that stand are joined
abbrev pub opened_graph : Opening → Shape
opened_graph o = clique_view (is_register o.bank) (own_class o)

-- All that the rules ask of an opening: its graph, the first register of its bank, and how many there are.
pub record Base : Type 0 where
  pub graph : Shape
  pub first : ℕ
  pub registers : ℕ

abbrev pub base_of : Opening → Base
base_of o = record {
  graph = opened_graph o;
  first = first_of o.bank.class;
  registers = o.bank.registers;
}

-- fixed vertices are the registers of the bank that stand
abbrev pub fixed : Base → ℕ → Bool
fixed b v = among b.first b.registers v && b.graph.stands v

-- What every base of a usable bank over a lawful graph keeps.
pub record SoundBase (b : Base) : Type 0 where
  pub lawful : Lawful b.graph
  pub some : 1 ≤ b.registers
  pub low : b.first + b.registers ≤ 32
  pub registers_fixed : (v : ℕ) → b.graph.stands v ≡ true → v < 32 → fixed b v ≡ true
  pub clique : (u v : ℕ) → fixed b u ≡ true → fixed b v ≡ true → (u ≢ v) → b.graph.joined u v ≡ true
