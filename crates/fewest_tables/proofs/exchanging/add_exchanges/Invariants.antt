-- What the loop of `add_exchanges` keeps, in terms of `shared_exchange`.
use Rattle.std.proofs.Common.{◌≡◌, ◌++◌, take}
use Rattle.std.specs.List.{flat_map}
use Rattle.attr_sets.specs.Sets.{attributes}
use Rattle.dep_model.specs.Deps.{dependencies_of}
use Rattle.dep_model.specs.Plans.{schemes_of}
use Rattle.fewest_tables.specs.FewestSteps.{shared_exchange}
use Rattle.fewest_tables.proofs.exchanging.add_exchanges.Given as goal

abbrev pub invariant-loop-left : goal.invariant-loop-left
invariant-loop-left l =
    dependencies_of l.rules.items
    ≡ dependencies_of l.fn.rules.items ++ flat_map (shared_exchange (attributes l.together)) (schemes_of (take l.left-index l.group))
