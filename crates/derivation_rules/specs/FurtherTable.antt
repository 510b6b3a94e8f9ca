-- The further rules, as a table of conclusions: for how a line of a derivation is judged.
use Rattle.std.specs.Prelude.{Bool, ◌&&◌, if◌then◌else◌, Result, Ok, Err}
use Rattle.attr_sets.specs.Attributes.{Attributes, union, intersection, difference}
use Rattle.attr_sets.specs.Sets.{is_subset, is_same}
use Rattle.dep_model.specs.Dependencies.{Dependency, fd, mvd, left_of, right_of}
use Rattle.derivation.specs.declared.fault.FaultKind.{FaultKind}
use Rattle.derivation.specs.declared.fault.FaultKind.TheVariants.{NotWithin, WrongKind, MiddleDiffers}
use Rattle.derivation_rules.specs.FurtherRules.{Further}
use Rattle.derivation_rules.specs.FurtherRules as rule

-- a conclusion, where what is asked of the premises' sides holds
abbrev pub where_middle : Bool → Dependency → Result Dependency FaultKind
where_middle holds d = if holds then Ok d else Err MiddleDiffers

-- from x -> y and v -> z: x -> yz where v is x, and x with v - y, -> z where y is within v
abbrev pub functional_conclusion : Further → Attributes → Attributes → Attributes → Attributes
    → Result Dependency FaultKind
functional_conclusion rule.union x y v z = where_middle (is_same x v) (fd x (union y z))
functional_conclusion rule.pseudotransitivity x y v z =
    where_middle (is_subset y v) (fd (union x (difference v y)) z)
functional_conclusion _ x y v z = Err WrongKind

-- from x ->> y and v ->> z: x ->> yz, what y and z share, and y - z, where v is x; and x with v - y,
-- ->> z - v where y is within v
abbrev pub multivalued_conclusion : Further → Attributes → Attributes → Attributes → Attributes
    → Result Dependency FaultKind
multivalued_conclusion rule.union x y v z = where_middle (is_same x v) (mvd x (union y z))
multivalued_conclusion rule.intersection x y v z = where_middle (is_same x v) (mvd x (intersection y z))
multivalued_conclusion rule.difference x y v z = where_middle (is_same x v) (mvd x (difference y z))
multivalued_conclusion rule.mpseudotransitivity x y v z =
    where_middle (is_subset y v) (mvd (union x (difference v y)) (difference z v))
multivalued_conclusion rule.pseudotransitivity x y v z = Err WrongKind

-- from two premises, which must be of one kind
abbrev pub further_conclusion : Further → Dependency → Dependency → Result Dependency FaultKind
further_conclusion r (fd x y) (fd v z) = functional_conclusion r x y v z
further_conclusion r (mvd x y) (mvd v z) = multivalued_conclusion r x y v z
further_conclusion r _ _ = Err WrongKind

-- from x -> y: x -> z with the stated z, which must be within y, where the stated left side is x
abbrev pub decomposition_conclusion : Dependency → Dependency → Result Dependency FaultKind
decomposition_conclusion stated (fd x y) =
    if is_same (left_of stated) x && is_subset (right_of stated) y then Ok (fd x (right_of stated))
    else Err NotWithin
decomposition_conclusion stated (mvd x y) = Err WrongKind
