-- A list in which the functional dependencies of one left side stand as one: for `merge_left_sides` and
-- `canonical_cover`.
use Rattle.std.specs.Prelude.{◌&&◌, not, List, [], ◌∷◌, Bool, filter}
use Rattle.std.specs.List.{list_any}
use Rattle.attr_sets.specs.Sets.{is_same}
use Rattle.dep_model.specs.Dependencies.{Dependency, fd, mvd, is_fd, left_of, right_of}

-- whether both are functional dependencies, with the same left side
abbrev pub have_same_left : Dependency → Dependency → Bool
have_same_left d e = is_fd d && (is_fd e && is_same (left_of d) (left_of e))

-- a functional dependency with the right sides of all those of a list that have its left side
abbrev pub with_right_sides : List Dependency → Dependency → Dependency
with_right_sides ds (fd x y) = fd x (λ k. list_any (λ e. have_same_left (fd x y) e && right_of e k) ds)
with_right_sides ds (mvd x y) = mvd x y

-- the functional dependencies of one left side stand as one, at the place of the first: it takes all their
-- right sides, and the later ones go
abbrev pub merge_left_sides : List Dependency → List Dependency
merge_left_sides [] = []
merge_left_sides (d ∷ later) =
    with_right_sides (d ∷ later) d ∷ filter (λ e. not (have_same_left d e)) (merge_left_sides later)
