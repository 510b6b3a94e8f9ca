-- What is left to prove of `numbered_pairs`: that leaders give the numbers.
use Rattle.std.proofs.Common.{◌≡◌, ◌∙◌, ℕ, length, ap, sym, subst}
use Rattle.row_groups.specs.Buckets.{AreLeaders, pair_at}
use Rattle.row_groups.specs.Numberings.{AreNumbered}
use Rattle.row_groups.proofs.groups.numbered_pairs.Goals as goal

pub returns-in_ok-numbers-in-None : goal.returns-in_ok-numbers-in-None
returns-in_ok-numbers-in-None c =
    let value : ℕ → ℕ × ℕ = pair_at c.args.first.now c.args.second.now in
    let led : AreLeaders value c.deref.result.now =
    subst (AreLeaders value) (sym c.deref.ensures.value) c.in_ok-leaders-in-None.ensures.leaders in
    let numbered = c.in_ok-numbers-in-None.ensures.pairs value led in
    let size : length c.deref.result.now ≡ length c.args.first.now =
    ap length c.deref.ensures.value ∙ c.in_ok-leaders-in-None.ensures.count in
    record {
      count = numbered.1.one_each ∙ size;
      numbered = λ order. (
        numbered.0,
        subst (λ (n : ℕ). AreNumbered value n numbered.0 c.in_ok-numbers-in-None.numbers.items) size numbered.1,
      );
    }
