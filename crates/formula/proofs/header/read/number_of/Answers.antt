-- Bytes with zeros behind them are the number that the library reads of sixteen.
use Rattle.std.proofs.Common.{◌≡◌, ℕ, zero, suc, ◌+◌, ◌-◌, ◌*◌, ◌^◌, ◌≤◌, List, [], ◌∷◌, ◌++◌, length, get_or, drop, replicate, refl, sym, ap, ◌∙◌, arith, length-append}
use Rattle.std.proofs.Math.Nat.{pow-suc}
use Rattle.std.proofs.lemmas.List.{drop_all, drop-replicate, length-replicate}
use Rattle.std.specs.Int.{sum_through, byte_worth, from_le_bytes, w128}
use Rattle.formula.specs.Headers.{number}
use Rattle.formula.proofs.header.read.number_of.Goals as goal

-- the byte at a place, and those behind it
number_at : (bytes : List ℕ) (i : ℕ) → number (drop i bytes) ≡ get_or bytes i 0 + 256 * number (drop (suc i) bytes)
number_at [] zero = refl
number_at [] (suc i) = refl
number_at (b ∷ bytes) zero = refl
number_at (b ∷ bytes) (suc i) = number_at bytes i

grow : (p s g rest : ℕ) → s + p * (g + 256 * rest) ≡ (s + g * p) + p * 256 * rest
grow p s g rest = omega arith

number_sum : (bytes : List ℕ) (k : ℕ)
    → number bytes ≡ sum_through (λ i. byte_worth i (get_or bytes i 0)) k + 256 ^ suc k * number (drop (suc k) bytes)
number_sum bytes zero = number_at bytes 0
number_sum bytes (suc k) =
    number_sum bytes k ∙ rw (number_at bytes (suc k), pow-suc 256 (suc k)) (grow (256 ^ suc k) _ _ _)

number_zeros : (bytes : List ℕ) (k : ℕ) → number (bytes ++ replicate k 0) ≡ number bytes
number_zeros [] zero = refl
number_zeros [] (suc k) = rw (number_zeros [] k) refl
number_zeros (b ∷ bytes) k = ap (λ n. b + 256 * n) (number_zeros bytes k)

sixteen : (bytes : List ℕ) → length bytes ≤ 16 → from_le_bytes w128 (bytes ++ drop (length bytes) (replicate 16 0)) ≡ number bytes
sixteen bytes few =
    let all = bytes ++ replicate (16 - length bytes) 0 in
    let long : length all ≤ 16 = simp (length-append, length-replicate) (omega arith) in
    let none : drop 16 all ≡ [] = drop_all 16 all long in
    let read : number all ≡ from_le_bytes w128 all = number_sum all 15 ∙ rw none (omega arith) in
    rw (drop-replicate {X = ℕ} (length bytes) 16 0) (sym read ∙ number_zeros bytes (16 - length bytes))

pub returns : goal.returns
returns c =
    let is : c.from_le_bytes.result ≡ from_le_bytes w128 (c.copy_from_slice.new.self ++ drop (length c.args.bytes.now) (replicate 16 0)) =
    c.from_le_bytes.ensures in
    is ∙ rw c.copy_from_slice.ensures.after (sixteen c.args.bytes.now c.requires)
