-- What is left to prove of `value_numbers`: that its loop keeps the values numbered, by `value_step`, and its clause.
use Rattle.std.proofs.Common.{arith, ◌≡◌, ℕ, [], length, get_or, subst}
use Rattle.row_groups.specs.Numberings.{AreNumbered}
use Rattle.row_groups.proofs.NumberingLemmas.{lent_bytes, value_step}
use Rattle.row_groups.proofs.leaders.value_numbers.Goals as goal

pub loop-k-preserved : goal.loop-k-preserved
loop-k-preserved c = record {
  numbered =
      value_step (λ i. get_or c.args.values.now i []) c.loop-k.k c.loop-k.set.keys c.insert_full.new.self.keys
      (record { bytes = c.value-bytes.result }) c.loop-k.numbers.items _ c.in_ok-number.number c.loop-k.invariant.numbered c.value-bytes.ensures.value
      c.in_ok-number.ensures.keys c.in_ok-number.ensures.index c.in_ok-push.ensures.items;
}

pub returns : goal.returns
returns c =
    let end : c.loop-k.k ≡ length c.args.values.now = omega (arith, c.loop-k-test.false, c.len-k-end.ensures.count, c.loop-k.auto.k-end) in
    record {
      numbered = (
        lent_bytes c.loop-k.set.keys,
        subst (λ (n : ℕ). AreNumbered (λ i. get_or c.args.values.now i []) n (lent_bytes c.loop-k.set.keys) c.loop-k.numbers.items)
            end c.loop-k.invariant.numbered,
      );
    }
