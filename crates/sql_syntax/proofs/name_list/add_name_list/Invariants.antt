-- What the loop of `add_name_list` keeps: `added` and `any_written`.
use Rattle.std.proofs.Common.{◌≡◌, ◌++◌, take}
use Rattle.attr_sets.specs.Sets.{attributes}
use Rattle.schema_model.specs.Schemas.{names_of}
use Rattle.schema_printer.specs.Printing.{members_from}
use Rattle.sql_syntax.specs.Names.{quoted_name, comma_list, is_not_empty}
use Rattle.sql_syntax.proofs.name_list.add_name_list.Given as goal

-- the names of the members so far
abbrev pub invariant-loop-attribute : goal.invariant-loop-attribute
invariant-loop-attribute l = record {
  added : l.text.items ≡ l.fn.text.items ++ comma_list quoted_name
      (members_from (attributes l.set) 0 (take l.attribute (names_of l.schema)));
  any_written : l.any_written ≡ is_not_empty (members_from (attributes l.set) 0 (take l.attribute (names_of l.schema)));
}
