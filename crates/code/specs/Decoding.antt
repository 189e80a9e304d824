-- The kinds by their bytes.
use Rattle.std.specs.Prelude.{◌≡◌, ℕ, Bool, true, ◌&&◌, ◌||◌, Result, MatchResult, ◌==◌, nat_le, nat_lt}
use Rattle.code.specs.Kinds.{among, operator_maps}
use Rattle.code.specs.declared.kinds.Kind.{Kind}
use Rattle.code.specs.declared.kinds.Kind.TheVariants.{Constant, Move, Jump, Branch, Give, End, Load, Store, Operator}
use Rattle.code.specs.declared.kinds.UnknownKind.{UnknownKind}

-- whether this byte is of the kind
abbrev pub is_of : Kind → ℕ → Bool
is_of Constant b = b == 2
is_of Move b = b == 3
is_of Jump b = b == 4
is_of Branch b = b == 5
is_of Give b = b == 6
is_of End b = b == 7
is_of Load b = b == 8
is_of Store b = b == 9
is_of Operator b = nat_le 16 b

-- whether this byte is of no kind
abbrev pub is_unknown : ℕ → Bool
is_unknown b = nat_lt b 2 || (nat_lt 9 b && nat_lt b 16)

-- the kind that the byte is of, or the byte where it is of none
abbrev pub Decodes : ℕ → Result Kind UnknownKind → Type 0
Decodes b r = MatchResult r (λ kind. is_of kind b ≡ true) (λ e. (e.0 ≡ b) × (is_unknown b ≡ true))

-- whether m is a map of the kind's own; load and store have one only where slots may stand
abbrev pub own_of : Bool → Kind → ℕ → Bool
own_of slots Constant m = m == 0x11
own_of slots Move m = m == 0x03
own_of slots Jump m = m == 0x08
own_of slots Branch m = m == 0x0A
own_of slots Give m = m == 0x02
own_of slots End m = m == 0x00
own_of slots Load m = slots && m == 0x41
own_of slots Store m = slots && m == 0x42
own_of slots Operator m = among operator_maps m
