-- The ten rules, as a table of conclusions: for what a tree proves (`Conclusions`) and how a
-- certificate line is judged.
use Rattle.std.specs.Prelude.{Bool, ◌&&◌, if◌then◌else◌, Result, Ok, Err, ok_or, slice_get}
use Rattle.attr_sets.specs.Attributes.{Attributes, union, difference}
use Rattle.attr_sets.specs.Sets.{is_subset, is_same, is_disjoint}
use Rattle.dep_model.specs.Theories.{Theory}
use Rattle.dep_model.specs.Dependencies.{Dependency, fd, mvd}
use Rattle.dep_model.specs.Theories.{universe_of, theory_of}
use Rattle.derivation.specs.declared.fault.FaultKind.{FaultKind}
use Rattle.derivation.specs.declared.fault.FaultKind.TheVariants.{NoSuchGiven, NotWithin, WrongKind, MiddleDiffers, NotDisjoint}
use Rattle.derivation.specs.Trees.{Leaf, given, reflexivity, mreflexivity, Step, augmentation, complementation, maugmentation, replication, Pair, transitivity, mtransitivity, coalescence}

-- whether a set lies within the universe
abbrev pub is_inside : Theory → Attributes → Bool
is_inside s x = is_subset x (universe_of s)

-- a dependency of the schema; x -> y, and x ->> y, where y is within x
abbrev pub leaf_conclusion : Theory → Leaf → Result Dependency FaultKind
leaf_conclusion s (given k) = ok_or (slice_get (theory_of s) k) NoSuchGiven
leaf_conclusion s (reflexivity x y) = if is_inside s x && is_subset y x then Ok (fd x y) else Err NotWithin
leaf_conclusion s (mreflexivity x y) = if is_inside s x && is_subset y x then Ok (mvd x y) else Err NotWithin

-- from x -> y: xz -> yz, and x ->> y; from x ->> y: what is neither in x nor in y, and xw ->> yz
-- where z is within w
abbrev pub step_conclusion : Theory → Step → Dependency → Result Dependency FaultKind
step_conclusion s (augmentation z) (fd x y) = if is_inside s z then Ok (fd (union x z) (union y z))
    else Err NotWithin
step_conclusion s complementation (mvd x y) = Ok (mvd x (difference (universe_of s) (union x y)))
step_conclusion s (maugmentation w z) (mvd x y) =
    if is_inside s w && is_subset z w then Ok (mvd (union x w) (union y z)) else Err NotWithin
step_conclusion s replication (fd x y) = Ok (mvd x y)
step_conclusion s _ _ = Err WrongKind

-- from x -> y and y -> z: x -> z; from x ->> y and y ->> z: x ->> z - y; from x ->> y and z -> w:
-- x -> w, where w is within y and z apart from y
abbrev pub pair_conclusion : Pair → Dependency → Dependency → Result Dependency FaultKind
pair_conclusion transitivity (fd x y) (fd v z) = if is_same y v then Ok (fd x z) else Err MiddleDiffers
pair_conclusion mtransitivity (mvd x y) (mvd v z) = if is_same y v then Ok (mvd x (difference z y))
    else Err MiddleDiffers
pair_conclusion coalescence (mvd x y) (fd z w) =
    if is_subset w y then (if is_disjoint z y then Ok (fd x w) else Err NotDisjoint) else Err NotWithin
pair_conclusion _ _ _ = Err WrongKind
