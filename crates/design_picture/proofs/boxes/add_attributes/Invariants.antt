-- What the loop of `add_attributes` keeps, in terms of `attribute_text`.
use Rattle.std.proofs.Common.{◌≡◌, ◌+◌, ◌++◌, ◌∷◌, [], ◌==◌, if◌then◌else◌, ℕ, List, take}
use Rattle.std.specs.Prelude.{fold, max, sum_by}
use Rattle.std.specs.List.{flat_map}
use Rattle.attr_sets.specs.Sets.{attributes}
use Rattle.dep_model.specs.Projections.{members_below}
use Rattle.design_picture.specs.Picture.{attribute_text}
use Rattle.design_picture.proofs.boxes.add_attributes.Given as goal

abbrev pub invariant-loop-attribute : goal.invariant-loop-attribute
invariant-loop-attribute l = l.text.items ≡ l.fn.text.items
    ++ flat_map (attribute_text l.schema l.table l.place) (members_below l.attribute (attributes l.table.scheme))
