-- What a bank means, and what is opened. Assumes nothing.
use Rattle.std.specs.Prelude.{◌≡◌, ℕ, false, ◌&&◌, List, Ok, Err, Option, Result, nat_le}
use Rattle.graph.specs.Shape.{Shape}
use Rattle.classes.specs.declared.class.Class.{Class}
use Rattle.session_laws.specs.Bank.{Bank}
use Rattle.session_laws.specs.Base.{Opening}
use Rattle.views.specs.Tables.{class_at}
use Rattle.session.specs.declared.bank.Bank.{Bank as CheckedBank}
use Rattle.session.specs.declared.bank.BadBank.{BadBank}

abbrev pub bank_of : CheckedBank → Bank
bank_of b = record { class = b.class; registers = b.registers }

-- what the check of a bank answers: the bank asked for, or that it has no register or more than sixteen
abbrev pub Checked : Class → ℕ → Result CheckedBank BadBank → Type 0
Checked class registers (Ok b) = (b.class ≡ class) × (b.registers ≡ registers)
Checked class registers (Err e) = (nat_le 1 registers && nat_le registers 16) ≡ false

-- a session over a graph of this shape
abbrev pub opening_over : Shape → CheckedBank → List (Option Class) → Opening
opening_over given bank classes = record { given = given; bank = bank_of bank; classes = class_at classes }
