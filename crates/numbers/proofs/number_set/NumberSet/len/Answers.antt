use Rattle.std.proofs.Common.{◌≡◌, ℕ, ◌*◌, ◌≤◌, List, length, take, rules, sum_by, sym, ap, ◌∙◌, arith}
use Rattle.std.proofs.lemmas.List.{take_all}
use Rattle.numbers.specs.Counting.{count}
use Rattle.numbers.specs.Sets.{has}
use Rattle.numbers.specs.Words.{bit}
use Rattle.numbers.proofs.Counting.{count_le}
use Rattle.numbers.proofs.Rows.{count_words}
use Rattle.numbers.proofs.number_set.NumberSet.len.Goals as goal

-- the words counted may be cut out as a part, where that is all of them
from_part : (digits : ℕ → ℕ) (total : ℕ) (words : List ℕ) → length words ≤ 8 → total ≡ sum_by digits (take 8 words) → total ≡ sum_by digits words
from_part digits total words h e = e ∙ ap (sum_by digits) (take_all 8 words h)

pub returns : goal.returns
unfolding has
returns c =
    let s = c.args.self.now in
    let few : length s.words ≤ 8 = omega (arith, s.whole) in
    let total : c.digits_in_all.result ≡ sum_by (λ w. count (bit w) 64) s.words = search (rules, from_part) in
    let size : length s.words * 64 ≡ 512 = omega (arith, s.whole) in
    let value : c.digits_in_all.result ≡ count (has s) 512 = total ∙ (sym (count_words s.words) ∙ ap (count (has s)) size) in
    let most : count (has s) 512 ≤ 512 = count_le (has s) 512 in
    record { value = value; bound = omega arith }
