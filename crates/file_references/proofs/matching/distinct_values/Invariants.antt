-- What the loop of `distinct_values` keeps: `values`.
use Rattle.std.proofs.Common.{◌≡◌, take}
use Rattle.dep_model.specs.Tuples.{distinct_tuples}
use Rattle.file_references.specs.Matches.{values_of_rows}
use Rattle.table_join.specs.Lent.{tuples_of}
use Rattle.file_references.proofs.matching.distinct_values.Given as goal

-- the values of the rows so far
abbrev pub invariant-loop-row : goal.invariant-loop-row
invariant-loop-row l = record {
  values : tuples_of l.values.keys ≡ distinct_tuples (take l.row-index (values_of_rows l.rows l.columns l.positions));
}
