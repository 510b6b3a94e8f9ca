-- What the loop of `all_empty` keeps: the values so far are empty.
use Rattle.std.proofs.Common.{◌≡◌, ◌<◌, ℕ, []}
use Rattle.column_types.specs.FirstTypes.{value_in}
use Rattle.column_types.proofs.columns.all_empty.Given as goal

abbrev pub invariant-loop-row : goal.invariant-loop-row
invariant-loop-row l = record {
  empty : (i : ℕ) → i < l.row → value_in l.rows l.position i ≡ [];
}
