-- What the loop of `group_with` keeps, in terms of `group_with`.
use Rattle.std.proofs.Common.{◌≡◌, take}
use Rattle.dep_model.specs.Plans.{schemes_of}
use Rattle.fewest_tables.specs.FewestSteps.{group_with}
use Rattle.fewest_tables.proofs.grouping.group_with.Given as goal

abbrev pub invariant-loop-other : goal.invariant-loop-other
invariant-loop-other l = schemes_of l.group.items ≡ group_with (take l.other-index l.known) l.one
