-- What the loop of `most_columns` keeps, in terms of `most_columns`.
use Rattle.std.proofs.Common.{◌≡◌, ◌+◌, ◌++◌, ◌∷◌, [], ◌==◌, if◌then◌else◌, ℕ, List, take}
use Rattle.std.specs.Prelude.{fold, max, sum_by}
use Rattle.attr_sets.specs.Sets.{attributes}
use Rattle.dep_model.specs.Projections.{members_below}
use Rattle.design_picture.specs.Places.{attribute_columns, name_columns}
use Rattle.design_picture.proofs.sizes.most_columns.Given as goal

abbrev pub invariant-loop-attribute : goal.invariant-loop-attribute
invariant-loop-attribute l = l.most ≡ fold (λ most k. max most (attribute_columns l.schema k)) (name_columns l.table.name)
    (members_below l.attribute (attributes l.table.scheme))
