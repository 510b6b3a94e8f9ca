-- The attributes that stand in the left sides of a list, and schemes with too many of them to be
-- searched: for `left_attributes` and `functional_left_attributes`, and for what searches by them.
use Rattle.std.specs.Prelude.{◌≡◌, ℕ, ◌<◌, true, List, [], ◌∷◌, Contains}
use Rattle.attr_sets.specs.Attributes.{Attributes, none, union, intersection, IsSubset, count_below}
use Rattle.attr_sets.specs.declared.set.TheConstants.{MOST_ATTRIBUTES}
use Rattle.dep_model.specs.Dependencies.{Dependency, left_of}
use Rattle.fd_closure.specs.declared.left_sides.TheConstants.{WIDEST_SEARCHED}

-- the union of the left sides of a list, of functional and of multivalued dependencies
abbrev pub left_sides : List Dependency → Attributes
left_sides [] = none
left_sides (d ∷ ds) = union (left_of d) (left_sides ds)

-- a scheme is too wide to be searched: more of its attributes stand in left sides than are tried
abbrev pub IsWideScheme : List Dependency → Attributes → Type 0
IsWideScheme ds scheme = WIDEST_SEARCHED < count_below (intersection scheme (left_sides ds)) MOST_ATTRIBUTES

-- attribute a stands in the left side of a dependency of a list
abbrev pub InLeftSide : List Dependency → ℕ → Type 0
InLeftSide ds a = (d : Dependency) × Contains ds d × (left_of d a ≡ true)

-- attribute a stands in a left side that lies within a set
abbrev pub InLeftSideWithin : Attributes → List Dependency → ℕ → Type 0
InLeftSideWithin x ds a =
    (d : Dependency) × Contains ds d × IsSubset (left_of d) x × (left_of d a ≡ true)
