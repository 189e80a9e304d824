-- Counting and searching along a row, a byte at a time. Assumes nothing.
use Rattle.std.proofs.Common.{◌≡◌, ℕ, zero, suc, ◌+◌, ◌-◌, ◌*◌, ◌/◌, ◌%◌, ◌^◌, ◌<◌, ◌≤◌, Bool, true, false, cond, eqb, List, get_or, sym, refl, ap, ◌∙◌, add-zero, pow-suc, zero-add, one-add, arith}
use lib.Count.{ones, ones_step}
use Rattle.graph.specs.Counting.{count, first}
use Rattle.graph.proofs.Counting.{count_split, count_le, first_skip}
use Rattle.graph.proofs.Stores.{count_same}
use Rattle.matrix.specs.Layout.{bit, bit_at}
use Rattle.matrix.specs.Rows.{between}
use Rattle.matrix.proofs.Digits.{bit_low, bit_suc, bit_zero}

pub between_none : (p : ℕ → Bool) (from : ℕ) → between p from from ≡ 0
between_none p from = let e : from - from ≡ zero = omega arith in rw e

pub between_le : (p : ℕ → Bool) (from to : ℕ) → between p from to ≤ to - from
between_le p from to = count_le (λ k. p (from + k)) (to - from)

-- a run of d numbers more
pub between_run : (p : ℕ → Bool) (from at d : ℕ) → from ≤ at → between p from (at + d) ≡ between p from at + count (λ k. p (at + k)) d
between_run p from at d h =
    let sum : (at + d) - from ≡ (at - from) + d = omega arith in
    let split = count_split (λ k. p (from + k)) (at - from) d in
    let same = count_same (λ k. p (from + ((at - from) + k))) (λ k. p (at + k)) d
    (λ k l. let e : from + ((at - from) + k) ≡ at + k = omega arith in ap p e) in
    ap (count (λ k. p (from + k))) sum ∙ (split ∙ ap (λ (x : ℕ). between p from at + x) same)

pub between_passed : (p : ℕ → Bool) (from at found : ℕ) → from ≤ at → found ≡ between p from at → p at ≡ true →
    found + 1 ≡ between p from (at + 1)
between_passed p from at found h e t =
    let run = between_run p from at 1 h in
    let here : p (at + 0) ≡ true = ap p (add-zero at) ∙ t in
    let one : count (λ k. p (at + k)) 1 ≡ 1 = rw here in
    omega arith

pub between_failed : (p : ℕ → Bool) (from at found : ℕ) → from ≤ at → found ≡ between p from at → p at ≡ false →
    found ≡ between p from (at + 1)
between_failed p from at found h e t =
    let run = between_run p from at 1 h in
    let here : p (at + 0) ≡ false = ap p (add-zero at) ∙ t in
    let none : count (λ k. p (at + k)) 1 ≡ 0 = rw here in
    omega arith

digit_count : (x : ℕ) → x < 2 → x ≡ cond {A = ℕ} (eqb x 1) 1 0
digit_count zero h = refl
digit_count (suc zero) h = refl
digit_count (suc (suc x)) h = absurd (omega arith)

-- the set digits of a number of m digits
pub ones_count : (m w : ℕ) → w < 2 ^ m → ones w ≡ count (bit w) m
unfolding ones
ones_count zero w h = let e : w ≡ 0 = omega arith in rw e
ones_count (suc m) w h =
    let p : 2 ^ suc m ≡ 2 ^ m * 2 = pow-suc 2 m in
    let rest : ones (w / 2) ≡ count (bit (w / 2)) m = ones_count m (w / 2) (omega arith) in
    let same : count (λ j. bit w (1 + j)) m ≡ count (bit (w / 2)) m =
    count_same (λ j. bit w (1 + j)) (bit (w / 2)) m (λ k l. ap (bit w) (one-add k) ∙ bit_suc w k) in
    let two : count (bit w) (1 + m) ≡ count (bit w) 1 + count (λ j. bit w (1 + j)) m = count_split (bit w) 1 m in
    let low : count (bit w) 1 ≡ w % 2 =
    zero-add (cond {A = ℕ} (bit w 0) 1 0) ∙ (ap (λ (b : Bool). cond {A = ℕ} b 1 0) (bit_low w) ∙ sym (digit_count (w % 2) (omega arith))) in
    let step : ones w ≡ w % 2 + ones (w / 2) = ones_step w in
    let name : count (bit w) (1 + m) ≡ count (bit w) (suc m) = ap (count (bit w)) (one-add m) in
    omega arith

-- the bits of a byte, at its place
byte_bit : (bytes : List ℕ) (at k : ℕ) → at % 8 ≡ 0 → k < 8 → bit_at bytes (at + k) ≡ bit (get_or bytes (at / 8) 0) k
byte_bit bytes at k h l =
    let place : (at + k) / 8 ≡ at / 8 = omega arith in
    let digit : (at + k) % 8 ≡ k = omega arith in
    rw (place, digit)

pub between_byte : (bytes : List ℕ) (from at found : ℕ) → from ≤ at → at % 8 ≡ 0 → get_or bytes (at / 8) 0 < 256 →
    found ≡ between (bit_at bytes) from at → found + ones (get_or bytes (at / 8) 0) ≡ between (bit_at bytes) from (at + 8)
between_byte bytes from at found h aligned small e =
    let run = between_run (bit_at bytes) from at 8 h in
    let byte = count_same (λ k. bit_at bytes (at + k)) (bit (get_or bytes (at / 8) 0)) 8 (λ k l. byte_bit bytes at k aligned l) in
    let all = ones_count 8 (get_or bytes (at / 8) 0) small in
    omega arith

-- a byte of zero has no set bit
pub first_byte : (bytes : List ℕ) (at to : ℕ) → at % 8 ≡ 0 → get_or bytes (at / 8) 0 ≡ 0 →
    first (bit_at bytes) at (to - at) ≡ first (bit_at bytes) (at + 8) (to - (at + 8))
first_byte bytes at to aligned none = first_skip (bit_at bytes) 8 at to (λ k above below.
    let part : at + (k - at) ≡ k = omega arith in
    let is = byte_bit bytes at (k - at) aligned (omega arith) in
    sym (ap (bit_at bytes) part) ∙ (is ∙ (ap (λ (w : ℕ). bit w (k - at)) none ∙ bit_zero (k - at))))
