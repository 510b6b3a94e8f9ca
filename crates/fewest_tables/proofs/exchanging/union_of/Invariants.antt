-- What the loop of `union_of` keeps, in terms of `union_of`.
use Rattle.std.proofs.Common.{◌≡◌, take}
use Rattle.attr_sets.specs.Sets.{attributes}
use Rattle.dep_model.specs.Plans.{schemes_of}
use Rattle.fewest_tables.specs.FewestSteps.{union_of}
use Rattle.fewest_tables.proofs.exchanging.union_of.Given as goal

abbrev pub invariant-loop-set : goal.invariant-loop-set
invariant-loop-set l = attributes l.all ≡ union_of (schemes_of (take l.set-index l.sets))
