use Rattle.std.proofs.Common.{◌≡◌, ℕ, ◌<◌, ◌≤◌, false, sym, inl, inr, arith}
use Rattle.std.proofs.lemmas.Bool.{cases_lt}
use Rattle.numbers.specs.Sets.{has}
use Rattle.numbers.proofs.Counting.{first_is, first_is_none}
use Rattle.numbers.proofs.Sets.{has_large}
use Rattle.numbers.proofs.number_set.NumberSet.next.Goals as goal

pub returns-in-Some : goal.returns-in-Some
returns-in-Some c =
    let found = c.in-Some.ensures.some in
    let between : (k : ℕ) → c.args.from ≤ k → k < c.in-Some.n → has c.args.self.now k ≡ false = λ k a b.
    elim (cases_lt k c.loop-at.at) [ inl l ↦ c.loop-at.invariant.1 k a l | inr h ↦ found.3 k h b ] in
    record {
      value = sym (first_is (has c.args.self.now) c.args.from _ c.in-Some.n (omega (arith, found.0)) (omega (arith, found.0, found.1)) found.2 between);
      none = tt;
      some = (omega (arith, found.0), found.1, found.2, between);
    }

pub returns : goal.returns
returns c =
    let nothing : (k : ℕ) → c.args.from ≤ k → has c.args.self.now k ≡ false = λ k a.
    elim (cases_lt k 512) [ inl l ↦ c.loop-at.invariant.1 k a (omega arith) | inr h ↦ has_large c.args.self.now k h ] in
    record {
      value = sym (first_is_none (has c.args.self.now) c.args.from _ (λ k a b. nothing k a));
      none = nothing;
      some = tt;
    }
