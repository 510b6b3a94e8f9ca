-- What the loop of `values_of` keeps: `values`.
use Rattle.std.proofs.Common.{◌≡◌, map, take}
use Rattle.dep_model.specs.Tuples.{distinct_tuples}
use Rattle.file_references.specs.Columns.{values_on}
use Rattle.table_join.specs.Lent.{tuples_of}
use Rattle.file_references.proofs.matching.values_of.Given as goal

-- the values of the rows so far
abbrev pub invariant-loop-row : goal.invariant-loop-row
invariant-loop-row l = record {
  values : tuples_of l.values.keys ≡ distinct_tuples (take l.row (map (values_on l.columns) l.rows));
}
