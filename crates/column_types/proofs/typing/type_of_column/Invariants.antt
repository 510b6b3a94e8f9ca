-- What the loop of `type_of_column` keeps: the values have none of the types so far.
use Rattle.std.proofs.Common.{◌≡◌, ◌<◌, ℕ, Some, slice_get}
use Rattle.column_types.specs.FirstTypes.{AllHave, tried_types}
use Rattle.schema_model.specs.declared.column_type.ColumnType.{ColumnType}
use Rattle.column_types.proofs.typing.type_of_column.Given as goal

abbrev pub invariant-loop-i : goal.invariant-loop-i
invariant-loop-i l = record {
  none : (j : ℕ) (other : ColumnType) → j < l.i → slice_get tried_types j ≡ Some other
      → AllHave l.rows l.position other → ⊥;
}
