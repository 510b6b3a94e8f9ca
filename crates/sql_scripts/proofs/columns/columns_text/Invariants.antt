-- What the loop of `columns_text` keeps: `listed` and `any_written`.
use Rattle.std.proofs.Common.{◌≡◌}
use Rattle.attr_sets.specs.Sets.{attributes}
use Rattle.dep_model.specs.Projections.{members_below}
use Rattle.sql_syntax.specs.Names.{comma_list, is_not_empty}
use Rattle.sql_scripts.specs.Migrating.{moved_text}
use Rattle.sql_scripts.proofs.columns.columns_text.Given as goal

-- the columns of the members so far
abbrev pub invariant-loop-attribute : goal.invariant-loop-attribute
invariant-loop-attribute l = record {
  listed : l.text.items ≡ comma_list (moved_text l.schema l.how) (members_below l.attribute (attributes l.set));
  any_written : l.any_written ≡ is_not_empty (members_below l.attribute (attributes l.set));
}
