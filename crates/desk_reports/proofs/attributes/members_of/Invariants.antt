-- What the loop of `members_of` keeps, in terms of `members_of`.
use Rattle.std.proofs.Common.{◌≡◌, take}
use Rattle.attr_sets.specs.Sets.{attributes}
use Rattle.desk_reports.specs.Attributes.{members_of}
use Rattle.desk_reports.proofs.attributes.members_of.Given as goal

abbrev pub invariant-loop-set : goal.invariant-loop-set
invariant-loop-set l = attributes l.found ≡ members_of (take l.set-index l.sets)
