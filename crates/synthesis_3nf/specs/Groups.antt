-- A cover grouped by left sides: for the plan of `GroupedPlans`.
use Rattle.std.specs.Prelude.{◌||◌, ◌&&◌, if◌then◌else◌, List, [], ◌∷◌, ◌++◌, map}
use Rattle.std.specs.List.{list_any}
use Rattle.attr_sets.specs.Attributes.{Attributes}
use Rattle.attr_sets.specs.Sets.{is_same}
use Rattle.dep_model.specs.Dependencies.{Dependency, left_of, right_of}

-- the left sides of a list, each once, in the order of their first occurrence: those that stand after
-- these
abbrev pub left_sides_after : List Attributes → List Dependency → List Attributes
left_sides_after earlier [] = []
left_sides_after earlier (d ∷ later) =
    if list_any (λ x. is_same x (left_of d)) earlier then left_sides_after earlier later
    else left_of d ∷ left_sides_after (earlier ++ left_of d ∷ []) later

-- the scheme of a left side: it, and what the dependencies of the list with this left side determine
abbrev pub group_scheme : List Dependency → Attributes → Attributes
group_scheme ds x k = x k || list_any (λ d. is_same x (left_of d) && right_of d k) ds

-- a list of dependencies grouped by left side: the schemes of its left sides
abbrev pub schemes_of_groups : List Dependency → List Attributes
schemes_of_groups ds = map (group_scheme ds) (left_sides_after [] ds)
