-- What the loop of `columns_missing` keeps: the columns so far of which a value may be missing.
use Rattle.std.specs.Prelude.{map}
use Rattle.attr_sets.specs.Sets.{attributes}
use Rattle.sql_schemas.specs.KeyValues.{key_columns}
use Rattle.sql_schemas.proofs.MissingLemmas.{AreMissingBelow}
use Rattle.sql_schemas.proofs.missing.columns_missing.Given as goal

abbrev pub invariant-loop-column : goal.invariant-loop-column
invariant-loop-column l = AreMissingBelow l.column l.columns (map key_columns l.keys) (attributes l.missing)
