-- What is left to prove of `values_of`: that a round of its loop keeps the invariant, and what it answers.
use Rattle.std.proofs.Common.{ap, map, [], ◌∙◌, arith}
use Rattle.std.proofs.lemmas.List.{get_or-map, length-map, take_all}
use Rattle.dep_model.specs.Tuples.{distinct_tuples}
use Rattle.row_store.specs.Rows.{row_at}
use Rattle.table_join.specs.Lent.{tuples_of}
use Rattle.file_references.specs.Columns.{values_on}
use Rattle.file_references.proofs.UnmatchedLemmas.{values_all, values_more}
use Rattle.file_references.proofs.matching.values_of.Goals as goal

pub loop-row-preserved : goal.loop-row-preserved
loop-row-preserved c =
    let rows = c.args.rows.now in
    let columns = c.args.columns.now in
    let i = c.loop-row.row in
    record {
      values = values_more (map (values_on columns) rows) i c.loop-row.values.keys c.insert.new.self.keys c.take_on.new.values
          (values_on columns (row_at rows i)) c.loop-row.invariant.values
          (omega (arith, c.loop-row-test.true, c.len-row-end.ensures.count, length-map rows (values_on columns)))
          (get_or-map (values_on columns) rows i [] [] (omega (arith, c.loop-row-test.true, c.len-row-end.ensures.count)))
          c.in_ok-take_on.ensures.values c.in_ok-insert.ensures.keys;
    }

pub returns : goal.returns
returns c =
    let listed = map (values_on c.args.columns.now) c.args.rows.now in
    record {
      values = values_all c.args.rows.now c.args.columns.now (tuples_of c.loop-row.values.keys)
          (c.loop-row.invariant.values ∙ ap distinct_tuples (take_all c.loop-row.row listed
          (omega (arith, c.loop-row-test.false, c.len-row-end.ensures.count, length-map c.args.rows.now (values_on c.args.columns.now)))));
    }
