-- What the loop of `all_have` keeps: the values so far are of the type, but for empty ones.
use Rattle.std.proofs.Common.{◌<◌, ℕ, true}
use Rattle.column_types.specs.FirstTypes.{value_in}
use Rattle.column_values.specs.Values.{FitsColumn}
use Rattle.column_types.proofs.columns.all_have.Given as goal

abbrev pub invariant-loop-row : goal.invariant-loop-row
invariant-loop-row l = record {
  fit : (i : ℕ) → i < l.row → FitsColumn l.column true (value_in l.rows l.position i);
}
