-- A map is a kind's own exactly when it is one of the kind's byte.
use Rattle.std.proofs.Common.{◌≡◌, ℕ, Bool, true, arith}
use Rattle.std.proofs.lemmas.Bool.{eqb-true}
use Rattle.std.proofs.lemmas.Bool.Decides.{nat_tests}
use Rattle.code.specs.Decoding.{is_of, own_of}
use Rattle.code.specs.Kinds.{own}
use Rattle.code.specs.declared.kinds.Kind.{Kind}
use Rattle.code.specs.declared.kinds.Kind.TheVariants.{Constant, Move, Jump, Branch, Give, End, Load, Store, Operator}

pub own_by_byte : (slots : Bool) (kind : Kind) (b m : ℕ) → is_of kind b ≡ true → own_of slots kind m ≡ own slots b m
own_by_byte slots Constant b m e = rw (eqb-true b 2 e) (grind (arith, nat_tests))
own_by_byte slots Move b m e = rw (eqb-true b 3 e) (grind (arith, nat_tests))
own_by_byte slots Jump b m e = rw (eqb-true b 4 e) (grind (arith, nat_tests))
own_by_byte slots Branch b m e = rw (eqb-true b 5 e) (grind (arith, nat_tests))
own_by_byte slots Give b m e = rw (eqb-true b 6 e) (grind (arith, nat_tests))
own_by_byte slots End b m e = rw (eqb-true b 7 e) (grind (arith, nat_tests))
own_by_byte slots Load b m e = rw (eqb-true b 8 e) (grind (arith, nat_tests))
own_by_byte slots Store b m e = rw (eqb-true b 9 e) (grind (arith, nat_tests))
own_by_byte slots Operator b m e = grind (arith, nat_tests)
