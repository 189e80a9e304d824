-- The classes by number and by name.
use Rattle.std.specs.Prelude.{ℕ, List, codes}
use Rattle.classes.specs.declared.class.Class.{Class}
use Rattle.classes.specs.declared.class.Class.TheVariants.{Zero, One}

abbrev pub number : Class → ℕ
number Zero = 0
number One = 1

-- how a class is printed
abbrev pub name : Class → List ℕ
name Zero = codes "0"
name One = codes "1"
