-- What is left to prove of `column_values`: that a round of its loop keeps the invariant, and what it answers.
use Rattle.std.proofs.Common.{◌≡◌, length, arith}
use Rattle.dep_model.specs.Tuples.{value_at}
use Rattle.row_store.specs.Rows.{row_at}
use Rattle.table_join.specs.Lent.{lent_values}
use Rattle.file_references.proofs.PromisingLemmas.{column_all, column_more, value_added}
use Rattle.file_references.proofs.promising.column_values.Goals as goal

pub loop-row-preserved : goal.loop-row-preserved
loop-row-preserved c =
    let rows = c.args.rows.now in
    let column = c.args.column in
    let i = c.loop-row.row in
    let more = value_added c.loop-row.values.keys c.insert.new.self.keys c.value.result (value_at (row_at rows i) column) c.value.ensures.value c.in_ok-insert.ensures.keys in
    record {
      values = column_more rows column i (lent_values c.loop-row.values.keys) (lent_values c.insert.new.self.keys) more.0 more.1 c.loop-row.invariant.values;
    }

pub returns : goal.returns
returns c =
    let end : length c.args.rows.now ≡ c.loop-row.row = omega (arith, c.loop-row-test.false, c.len-row-end.ensures.count) in
    record {
      values = column_all c.args.rows.now c.args.column c.loop-row.row (lent_values c.loop-row.values.keys) end c.loop-row.invariant.values;
    }
