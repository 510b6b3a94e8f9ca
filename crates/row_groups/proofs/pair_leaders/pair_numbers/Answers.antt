-- What is left to prove of `pair_numbers`: that its loop keeps the pairs numbered, by `numbered_more`, and its clause.
use Rattle.std.proofs.Common.{arith, ◌≡◌, ◌+◌, ℕ, List, length, get_or, subst, sym}
use Rattle.row_groups.specs.Numberings.{AreNumbered}
use Rattle.row_groups.proofs.NumberingLemmas.{numbered_more, pair-Gets}
use Rattle.row_groups.proofs.pair_leaders.pair_numbers.Goals as goal

pub loop-k-preserved : goal.loop-k-preserved
loop-k-preserved c =
    let pairs : List (ℕ × ℕ) = c.args.pairs.now in
    let k : ℕ = c.loop-k.k in
    let gets = pair-Gets c.loop-k.set.keys c.insert_full.new.self.keys _ c.in_ok-number.number
    c.in_ok-number.ensures.keys c.in_ok-number.ensures.index in
    record {
      numbered =
          subst (AreNumbered (λ i. get_or pairs i (0, 0)) (k + 1) c.insert_full.new.self.keys) (sym c.in_ok-push.ensures.items)
          (numbered_more (λ i. get_or pairs i (0, 0)) k c.loop-k.set.keys c.insert_full.new.self.keys c.loop-k.numbers.items
          c.in_ok-number.number c.loop-k.invariant.numbered gets);
    }

pub returns : goal.returns
returns c =
    let end : c.loop-k.k ≡ length c.args.pairs.now = omega (arith, c.loop-k-test.false, c.loop-k.auto.k-end) in
    record {
      numbered = (
        c.loop-k.set.keys,
        subst (λ (n : ℕ). AreNumbered (λ i. get_or c.args.pairs.now i (0, 0)) n c.loop-k.set.keys c.loop-k.numbers.items)
            end c.loop-k.invariant.numbered,
      );
    }
