-- What the loop of `has_empty` keeps: no value so far is empty.
use Rattle.std.proofs.Common.{◌≡◌, ◌<◌, ℕ, []}
use Rattle.column_types.specs.FirstTypes.{value_in}
use Rattle.column_types.proofs.columns.has_empty.Given as goal

abbrev pub invariant-loop-row : goal.invariant-loop-row
invariant-loop-row l = record {
  none : (i : ℕ) → i < l.row → value_in l.rows l.position i ≡ [] → ⊥;
}
