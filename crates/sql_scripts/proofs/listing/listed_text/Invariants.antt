-- What the loop of `listed_text` keeps: `listed`, `counted` and `low`.
use Rattle.std.proofs.Common.{◌≡◌, ◌≤◌}
use Rattle.attr_sets.specs.Attributes.{count_below}
use Rattle.attr_sets.specs.Sets.{attributes}
use Rattle.dep_model.specs.Projections.{members_below}
use Rattle.sql_syntax.specs.Names.{comma_list}
use Rattle.sql_scripts.specs.Listing.{item_text_at}
use Rattle.sql_scripts.proofs.listing.listed_text.Given as goal

-- the items of the members so far, and how many they are
abbrev pub invariant-loop-attribute : goal.invariant-loop-attribute
invariant-loop-attribute l = record {
  listed : l.text.items
      ≡ comma_list (item_text_at l.schema l.listed (attributes l.set)) (members_below l.attribute (attributes l.set));
  counted : l.number ≡ count_below (attributes l.set) l.attribute;
  low : l.number ≤ l.attribute;
}
