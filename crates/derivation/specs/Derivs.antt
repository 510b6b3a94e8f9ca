-- The tree that a `Deriv` of the code stands for: for every contract in which one stands.
use Rattle.std.specs.Prelude.{Result, Ok, Err}
use Rattle.attr_sets.specs.Sets.{attributes}
use Rattle.dep_model.specs.declared.dep.Dep.{Dep}
use Rattle.dep_model.specs.Dependencies.{Dependency}
use Rattle.dep_model.specs.Deps.{dependency_of}
use Rattle.derivation.specs.declared.rule.LeafRule as leaves
use Rattle.derivation.specs.declared.rule.StepRule as steps
use Rattle.derivation.specs.declared.rule.PairRule as pairs
use Rattle.derivation.specs.declared.deriv.Deriv as deriv
use Rattle.derivation.specs.Trees.{Leaf, given, reflexivity, mreflexivity, Step, augmentation, complementation, maugmentation, replication, Pair, transitivity, mtransitivity, coalescence, Tree, leaf, step, pair}

-- the rules of the code, as those of the definitions
abbrev pub leaf_of : leaves.LeafRule → Leaf
leaf_of (leaves.TheVariants.Given k) = given k
leaf_of (leaves.TheVariants.Reflexivity x y) = reflexivity (attributes x) (attributes y)
leaf_of (leaves.TheVariants.MReflexivity x y) = mreflexivity (attributes x) (attributes y)

abbrev pub step_of : steps.StepRule → Step
step_of (steps.TheVariants.Augmentation z) = augmentation (attributes z)
step_of steps.TheVariants.Complementation = complementation
step_of (steps.TheVariants.MAugmentation w z) = maugmentation (attributes w) (attributes z)
step_of steps.TheVariants.Replication = replication

abbrev pub pair_of : pairs.PairRule → Pair
pair_of pairs.TheVariants.Transitivity = transitivity
pair_of pairs.TheVariants.MTransitivity = mtransitivity
pair_of pairs.TheVariants.Coalescence = coalescence

-- a derivation as a tree, wherever its nodes lie in memory
abbrev pub tree_of : deriv.Deriv → Tree
tree_of (deriv.Leaf rule) = leaf (leaf_of rule)
tree_of (deriv.Step' rule p from) = step (step_of rule) (tree_of from)
tree_of (deriv.Pair' rule p first q second) = pair (pair_of rule) (tree_of first) (tree_of second)

-- an outcome of the code, whose `Dep` becomes a dependency between sets of attributes
abbrev pub outcome_of : {E : Type 0} → Result Dep E → Result Dependency E
outcome_of (Ok d) = Ok (dependency_of d)
outcome_of (Err e) = Err e
