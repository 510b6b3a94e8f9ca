-- What a further rule concludes from dependencies within a set lies within it.
use Rattle.std.proofs.Common.{◌≡◌, ◌&&◌, arith, subst}
use Rattle.std.specs.Prelude.{Ok}
use Rattle.std.proofs.lemmas.Bool.{and_parts}
use Rattle.attr_sets.specs.Attributes.{Attributes, union, intersection, difference}
use Rattle.attr_sets.specs.Sets.{is_subset, is_same}
use Rattle.attr_sets.proofs.AttributesLemmas.{is_subset-true}
use Rattle.dep_model.specs.Dependencies.{Dependency, fd, mvd, IsWithin, left_of, right_of}
use Rattle.derivation.specs.declared.fault.FaultKind.TheVariants.{MiddleDiffers, NotWithin}
use Rattle.derivation.proofs.RuleTableLemmas.{cond-ok}
use Rattle.derivation.proofs.WithinLemmas.{OfAttributes}
use Rattle.derivation_rules.specs.FurtherRules.{Further}
use Rattle.derivation_rules.specs.FurtherRules as rule
use Rattle.derivation_rules.specs.FurtherTable.{functional_conclusion, multivalued_conclusion, further_conclusion, decomposition_conclusion}

functional_within : (u : Attributes) (f : Further) (x y v z : Attributes) (d : Dependency)
    → IsWithin u (fd x y) → IsWithin u (fd v z) → functional_conclusion f x y v z ≡ Ok d → IsWithin u d
functional_within u rule.union x y v z d first second h =
    subst (IsWithin u) (cond-ok (is_same x v) MiddleDiffers (fd x (union y z)) d h).1
    (first.0, (λ k m. grind (arith, first.1 k, second.1 k, m)))
functional_within u rule.pseudotransitivity x y v z d first second h =
    subst (IsWithin u) (cond-ok (is_subset y v) MiddleDiffers (fd (union x (difference v y)) z) d h).1
    ((λ k m. grind (arith, first.0 k, second.0 k, m)), second.1)
functional_within u rule.intersection x y v z d first second h = cc
functional_within u rule.difference x y v z d first second h = cc
functional_within u rule.mpseudotransitivity x y v z d first second h = cc

multivalued_within : (u : Attributes) (f : Further) (x y v z : Attributes) (d : Dependency)
    → IsWithin u (mvd x y) → IsWithin u (mvd v z) → multivalued_conclusion f x y v z ≡ Ok d → IsWithin u d
multivalued_within u rule.union x y v z d first second h =
    subst (IsWithin u) (cond-ok (is_same x v) MiddleDiffers (mvd x (union y z)) d h).1
    (first.0, (λ k m. grind (arith, first.1 k, second.1 k, m)))
multivalued_within u rule.intersection x y v z d first second h =
    subst (IsWithin u) (cond-ok (is_same x v) MiddleDiffers (mvd x (intersection y z)) d h).1
    (first.0, (λ k m. grind (arith, first.1 k, m)))
multivalued_within u rule.difference x y v z d first second h =
    subst (IsWithin u) (cond-ok (is_same x v) MiddleDiffers (mvd x (difference y z)) d h).1
    (first.0, (λ k m. grind (arith, first.1 k, m)))
multivalued_within u rule.mpseudotransitivity x y v z d first second h =
    subst (IsWithin u) (cond-ok (is_subset y v) MiddleDiffers (mvd (union x (difference v y)) (difference z v)) d h).1
    ((λ k m. grind (arith, first.0 k, second.0 k, m)), (λ k m. grind (arith, second.1 k, m)))
multivalued_within u rule.pseudotransitivity x y v z d first second h = cc

pub further_within : (u : Attributes) (f : Further) (x y d : Dependency) → IsWithin u x → IsWithin u y
    → further_conclusion f x y ≡ Ok d → IsWithin u d
further_within u f (fd x y) (fd v z) d first second h = functional_within u f x y v z d first second h
further_within u f (mvd x y) (mvd v z) d first second h = multivalued_within u f x y v z d first second h
further_within u f (fd x y) (mvd v z) d first second h = cc
further_within u f (mvd x y) (fd v z) d first second h = cc

pub decomposition_within : (u : Attributes) (stated x d : Dependency) → OfAttributes (right_of stated)
    → IsWithin u x → decomposition_conclusion stated x ≡ Ok d → IsWithin u d
decomposition_within u stated (fd x y) d own inside h =
    let z = right_of stated in
    let passed = cond-ok (is_same (left_of stated) x && is_subset z y) NotWithin (fd x z) d h in
    let both = and_parts (is_same (left_of stated) x) (is_subset z y) passed.0 in
    subst (IsWithin u) passed.1 (inside.0, (λ k m. inside.1 k (is_subset-true z y own both.1 k m)))
decomposition_within u stated (mvd x y) d own inside h = cc
