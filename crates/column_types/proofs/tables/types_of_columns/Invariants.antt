-- What the loop of `types_of_columns` keeps: the types of the columns so far.
use Rattle.std.proofs.Common.{◌≡◌, length}
use Rattle.std.specs.Prelude.{All, IsTrue}
use Rattle.column_types.specs.FirstTypes.{AreTypesOf}
use Rattle.schema_model.specs.Columns.{is_column_type}
use Rattle.column_types.proofs.tables.types_of_columns.Given as goal

abbrev pub invariant-loop-position : goal.invariant-loop-position
invariant-loop-position l = record {
  count : length l.columns.items ≡ l.position;
  types : AreTypesOf l.rows l.columns.items;
  valid : All (λ column. IsTrue (is_column_type column)) l.columns.items;
}
