-- Tests that the code puts otherwise than the rules do. Assumes nothing.
use Rattle.std.proofs.Common.{◌≡◌, ℕ, ◌+◌, ◌≤◌, Bool, true, false, not, ◌&&◌, ◌||◌, ltb, leb, arith}
use Rattle.std.proofs.lemmas.Bool.Decides.{nat_tests}

-- between two ends
pub bank_test : (f r v : ℕ) → f + r ≤ 32 → ((ltb v (f + r) && ltb v 512) && not (ltb v f && ltb v 512)) ≡ (leb f v && ltb v (f + r))
bank_test f r v small = grind (arith, nat_tests)

-- the pairs of a vertex that is left, and of one that is not
pub row_there : (j a b : Bool) → a ≡ true → (j && b) ≡ (j && (a && b))
row_there j a b h = rw h

pub row_none : (j a b : Bool) → a ≡ false → false ≡ (j && (a && b))
row_none j a b h = grind (arith, nat_tests)

-- what has a mark is not counted again
pub not_marked : (a m : Bool) → m ≡ false → (a && not m) ≡ a
not_marked a m e = grind (arith, nat_tests)

pub marked_now : (a b m n : Bool) → n ≡ (m || a) → m ≡ false → (b && not n) ≡ (b && not a)
marked_now a b m n e f = grind (arith, nat_tests)
