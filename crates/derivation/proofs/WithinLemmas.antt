-- What a tree of sets of attributes concludes lies within the universe.
use Rattle.std.proofs.Common.{◌≡◌, ◌&&◌, arith, subst}
use Rattle.std.specs.Prelude.{Ok, slice_get}
use Rattle.std.proofs.lemmas.Option.{slice_get_within, get_or_from_slice_get}
use Rattle.std.proofs.lemmas.List.Elements.{All-contains}
use Rattle.std.proofs.lemmas.Bool.{and_parts}
use Rattle.attr_sets.specs.declared.set.TheConstants.{MOST_ATTRIBUTES}
use Rattle.attr_sets.specs.Attributes.{Attributes, below, union, difference, IsSubset}
use Rattle.attr_sets.specs.Sets.{is_subset, is_same, is_disjoint}
use Rattle.attr_sets.proofs.AttributesLemmas.{attributes_below, is_subset-true}
use Rattle.dep_model.specs.Theories.{Theory}
use Rattle.dep_model.specs.Dependencies.{Dependency, fd, mvd, IsWithin}
use Rattle.dep_model.specs.Theories.{deps_of, theory_of, universe_of}
use Rattle.dep_model.proofs.DepLemmas.{dependencies_all-from}
use Rattle.derivation.specs.declared.fault.FaultKind.TheVariants.{NoSuchGiven, NotWithin, MiddleDiffers, NotDisjoint}
use Rattle.derivation.specs.declared.rule.LeafRule.{LeafRule}
use Rattle.derivation.specs.declared.rule.LeafRule.TheVariants as leaves
use Rattle.derivation.specs.declared.rule.StepRule.{StepRule}
use Rattle.derivation.specs.declared.rule.StepRule.TheVariants as steps
use Rattle.derivation.specs.declared.deriv.Deriv as deriv
use Rattle.derivation.specs.Trees.{Leaf, given, reflexivity, mreflexivity, Step, augmentation, complementation, maugmentation, replication, Pair, transitivity, mtransitivity, coalescence, Tree, leaf, step, pair}
use Rattle.derivation.specs.Derivs.{leaf_of, step_of, tree_of}
use Rattle.derivation.specs.Table.{leaf_conclusion, step_conclusion, pair_conclusion}
use Rattle.derivation.specs.Conclusions.{Proves}
use Rattle.derivation.proofs.RuleTableLemmas.{some_of_ok, the_ok, cond-ok, cond-ok_two}

-- each set of a tree is one of attributes
abbrev pub OfAttributes : Attributes → Type 0
OfAttributes x = IsSubset x (below MOST_ATTRIBUTES)

abbrev pub LeafOfAttributes : Leaf → Type 0
LeafOfAttributes (given k) = Unit {0}
LeafOfAttributes (reflexivity x y) = OfAttributes x × OfAttributes y
LeafOfAttributes (mreflexivity x y) = OfAttributes x × OfAttributes y

abbrev pub StepOfAttributes : Step → Type 0
StepOfAttributes (augmentation z) = OfAttributes z
StepOfAttributes complementation = Unit {0}
StepOfAttributes (maugmentation w z) = OfAttributes w × OfAttributes z
StepOfAttributes replication = Unit {0}

abbrev pub TreeOfAttributes : Tree → Type 0
TreeOfAttributes (leaf rule) = LeafOfAttributes rule
TreeOfAttributes (step rule t) = StepOfAttributes rule × TreeOfAttributes t
TreeOfAttributes (pair rule t u) = TreeOfAttributes t × TreeOfAttributes u

leaf_of-attributes : (rule : LeafRule) → LeafOfAttributes (leaf_of rule)
leaf_of-attributes (leaves.Given k) = tt {0}
leaf_of-attributes (leaves.Reflexivity x y) = (attributes_below x, attributes_below y)
leaf_of-attributes (leaves.MReflexivity x y) = (attributes_below x, attributes_below y)

step_of-attributes : (rule : StepRule) → StepOfAttributes (step_of rule)
step_of-attributes (steps.Augmentation z) = attributes_below z
step_of-attributes steps.Complementation = tt {0}
step_of-attributes (steps.MAugmentation w z) = (attributes_below w, attributes_below z)
step_of-attributes steps.Replication = tt {0}

pub tree_of-attributes : (d : deriv.Deriv) → TreeOfAttributes (tree_of d)
tree_of-attributes (deriv.Leaf rule) = leaf_of-attributes rule
tree_of-attributes (deriv.Step' rule p from) = (step_of-attributes rule, tree_of-attributes from)
tree_of-attributes (deriv.Pair' rule p first q second) = (tree_of-attributes first, tree_of-attributes second)

pub leaf_within : (s : Theory) (rule : Leaf) (d : Dependency) → LeafOfAttributes rule → leaf_conclusion s rule ≡ Ok d → IsWithin (universe_of s) d
leaf_within s (given k) d own h =
    let found = some_of_ok (slice_get (theory_of s) k) NoSuchGiven d h in
    All-contains (IsWithin (universe_of s)) (theory_of s) d (dependencies_all-from (IsWithin (universe_of s)) (deps_of s) s.valid.deps_within)
    (k, slice_get_within (theory_of s) k d found, get_or_from_slice_get (theory_of s) k d d found)
leaf_within s (reflexivity x y) d own h =
    let passed = cond-ok (is_subset x (universe_of s) && is_subset y x) NotWithin (fd x y) d h in
    let both = and_parts (is_subset x (universe_of s)) (is_subset y x) passed.0 in
    let x_in = is_subset-true x (universe_of s) own.0 both.0 in
    subst (IsWithin (universe_of s)) passed.1 (x_in, (λ k m. x_in k (is_subset-true y x own.1 both.1 k m)))
leaf_within s (mreflexivity x y) d own h =
    let passed = cond-ok (is_subset x (universe_of s) && is_subset y x) NotWithin (mvd x y) d h in
    let both = and_parts (is_subset x (universe_of s)) (is_subset y x) passed.0 in
    let x_in = is_subset-true x (universe_of s) own.0 both.0 in
    subst (IsWithin (universe_of s)) passed.1 (x_in, (λ k m. x_in k (is_subset-true y x own.1 both.1 k m)))

pub step_within : (s : Theory) (rule : Step) (x d : Dependency) → StepOfAttributes rule → IsWithin (universe_of s) x → step_conclusion s rule x ≡ Ok d → IsWithin (universe_of s) d
step_within s (augmentation z) (fd x y) d own inside h =
    let passed = cond-ok (is_subset z (universe_of s)) NotWithin (fd (union x z) (union y z)) d h in
    let z_in = is_subset-true z (universe_of s) own passed.0 in
    subst (IsWithin (universe_of s)) passed.1 ((λ k m. grind (arith, inside.0 k, z_in k, m)), (λ k m. grind (arith, inside.1 k, z_in k, m)))
step_within s (augmentation z) (mvd x y) d own inside h = cc
step_within s complementation (fd x y) d own inside h = cc
step_within s complementation (mvd x y) d own inside h =
    subst (IsWithin (universe_of s)) (the_ok (mvd x (difference (universe_of s) (union x y))) d h) (inside.0, (λ k m. grind (arith, m)))
step_within s (maugmentation w z) (fd x y) d own inside h = cc
step_within s (maugmentation w z) (mvd x y) d own inside h =
    let passed = cond-ok (is_subset w (universe_of s) && is_subset z w) NotWithin (mvd (union x w) (union y z)) d h in
    let both = and_parts (is_subset w (universe_of s)) (is_subset z w) passed.0 in
    let w_in = is_subset-true w (universe_of s) own.0 both.0 in
    let z_in = is_subset-true z w own.1 both.1 in
    subst (IsWithin (universe_of s)) passed.1 ((λ k m. grind (arith, inside.0 k, w_in k, m)), (λ k m. grind (arith, inside.1 k, w_in k, z_in k, m)))
step_within s replication (fd x y) d own inside h = subst (IsWithin (universe_of s)) (the_ok (mvd x y) d h) inside
step_within s replication (mvd x y) d own inside h = cc

pub pair_within : (s : Theory) (rule : Pair) (x y d : Dependency) → IsWithin (universe_of s) x → IsWithin (universe_of s) y → pair_conclusion rule x y ≡ Ok d → IsWithin (universe_of s) d
pair_within s transitivity (fd x y) (fd v z) d first second h =
    subst (IsWithin (universe_of s)) (cond-ok (is_same y v) MiddleDiffers (fd x z) d h).1 (first.0, second.1)
pair_within s transitivity (fd x y) (mvd v z) d first second h = cc
pair_within s transitivity (mvd x y) e d first second h = cc
pair_within s mtransitivity (mvd x y) (mvd v z) d first second h =
    subst (IsWithin (universe_of s)) (cond-ok (is_same y v) MiddleDiffers (mvd x (difference z y)) d h).1 (first.0, (λ k m. grind (arith, second.1 k, m)))
pair_within s mtransitivity (mvd x y) (fd v z) d first second h = cc
pair_within s mtransitivity (fd x y) e d first second h = cc
pair_within s coalescence (mvd x y) (fd z w) d first second h =
    subst (IsWithin (universe_of s)) (cond-ok_two (is_subset w y) (is_disjoint z y) NotDisjoint NotWithin (fd x w) d h).2 (first.0, second.1)
pair_within s coalescence (mvd x y) (mvd z w) d first second h = cc
pair_within s coalescence (fd x y) e d first second h = cc

pub conclusion_within : (s : Theory) (t : Tree) (d : Dependency) → TreeOfAttributes t → Proves s t d → IsWithin (universe_of s) d
conclusion_within s (leaf rule) d own proves = leaf_within s rule d own proves
conclusion_within s (step rule t) d own proves = step_within s rule proves.0 d own.0 (conclusion_within s t proves.0 own.1 proves.1) proves.2
conclusion_within s (pair rule t u) d own proves =
    pair_within s rule proves.0 proves.1 d (conclusion_within s t proves.0 own.0 proves.2) (conclusion_within s u proves.1 own.1 proves.3) proves.4
