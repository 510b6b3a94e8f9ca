-- What the loop of `add_columns_of_set` keeps: `added` and `any_before`.
use Rattle.std.proofs.Common.{◌≡◌, ◌++◌, false, map}
use Rattle.attr_sets.specs.Sets.{attributes}
use Rattle.dep_model.specs.Projections.{members_below}
use Rattle.ddl_text.specs.Ddl.{column_made}
use Rattle.sql_syntax.specs.Statements.{element_lines}
use Rattle.sql_syntax.specs.Names.{is_not_empty}
use Rattle.ddl_text.proofs.columns.add_columns_of_set.Given as goal

-- the columns of the members so far
abbrev pub invariant-loop-attribute : goal.invariant-loop-attribute
invariant-loop-attribute l = record {
  added : l.text.items ≡ l.fn.text.items ++ element_lines false
      (map (column_made l.schema (attributes l.nullable)) (members_below l.attribute (attributes l.scheme)));
  any_before : l.any_before ≡ is_not_empty (map (column_made l.schema (attributes l.nullable)) (members_below l.attribute (attributes l.scheme)));
}
