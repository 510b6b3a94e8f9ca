-- What the loop of `columns_with_empty` keeps: the columns so far in which a value is empty.
use Rattle.attr_sets.specs.Sets.{attributes}
use Rattle.column_types.specs.FirstTypes.{HaveEmpty}
use Rattle.column_types.proofs.tables.columns_with_empty.Given as goal

abbrev pub invariant-loop-position : goal.invariant-loop-position
invariant-loop-position l = HaveEmpty l.position l.rows (attributes l.columns)
