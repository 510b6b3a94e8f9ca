-- What the loop of `columns_of` keeps: `columns`.
use Rattle.std.proofs.Common.{◌≡◌}
use Rattle.attr_sets.specs.Sets.{attributes}
use Rattle.dep_model.specs.Projections.{members_below}
use Rattle.file_references.proofs.column_sets.columns_of.Given as goal

-- the members so far
abbrev pub invariant-loop-attribute : goal.invariant-loop-attribute
invariant-loop-attribute l = record { columns : l.columns.items ≡ members_below l.attribute (attributes l.set) }
