-- What is left to prove of `numbers_of_few`: its clause `groups` and that a round of its loop keeps
-- the invariant, by `value_step` and `column_groups`.
use Rattle.std.proofs.Common.{arith, ◌≡◌, ℕ, length, subst}
use Rattle.dep_model.specs.Tuples.{value_at}
use Rattle.row_groups.specs.Numberings.{AreNumbered}
use Rattle.row_store.specs.Rows.{row_at}
use Rattle.row_groups.proofs.NumberingLemmas.{lent_bytes, value_step, column_groups}
use Rattle.row_groups.proofs.interning.numbers_of_few.Goals as goal

pub loop-row-preserved : goal.loop-row-preserved
loop-row-preserved c = record {
  numbered =
      value_step (λ i. value_at (row_at c.args.rows.now i) c.args.attribute) c.loop-row.row c.loop-row.values.keys c.insert_full.new.self.keys (record { bytes = c.value-bytes.result }) c.loop-row.numbers.items _ c.in_ok-number.number
      c.loop-row.invariant.numbered c.value-bytes.ensures.value c.in_ok-number.ensures.keys c.in_ok-number.ensures.index c.in_ok-push.ensures.items;
}

pub returns : goal.returns
returns c =
    let end : c.loop-row.row ≡ length c.args.rows.now = omega (arith, c.loop-row-test.false, c.len-row-end.ensures.count) in
    record {
      groups = column_groups c.args.rows.now c.args.attribute _ _
          (subst (λ (n : ℕ). AreNumbered (λ i. value_at (row_at c.args.rows.now i) c.args.attribute) n (lent_bytes c.loop-row.values.keys) c.loop-row.numbers.items) end c.loop-row.invariant.numbered);
    }
