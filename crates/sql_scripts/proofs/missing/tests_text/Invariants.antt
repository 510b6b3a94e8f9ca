-- What the loop of `tests_text` keeps: `listed` and `any_written`.
use Rattle.std.proofs.Common.{◌≡◌}
use Rattle.attr_sets.specs.Sets.{attributes}
use Rattle.dep_model.specs.Projections.{members_below}
use Rattle.sql_syntax.specs.Names.{is_not_empty}
use Rattle.sql_scripts.specs.Listing.{tests_at}
use Rattle.sql_scripts.proofs.missing.tests_text.Given as goal

-- the tests of the members so far
abbrev pub invariant-loop-attribute : goal.invariant-loop-attribute
invariant-loop-attribute l = record {
  listed : l.text.items ≡ tests_at l.schema l.asked (members_below l.attribute (attributes l.set));
  any_written : l.any_written ≡ is_not_empty (members_below l.attribute (attributes l.set));
}
