-- What the loop of `key_values` keeps: `key`.
use Rattle.file_references.specs.Keys.{HoldsKeySoFar}
use Rattle.table_join.specs.Lent.{tuples_of}
use Rattle.file_references.proofs.identifying.key_values.Given as goal

-- the rows so far
abbrev pub invariant-loop-row : goal.invariant-loop-row
invariant-loop-row l = record {
  key : HoldsKeySoFar l.rows l.columns l.row (tuples_of l.values.keys) l.firsts.items;
}
