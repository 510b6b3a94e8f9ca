-- What the loop of `shared_exchanges` keeps, in terms of `shared_exchanges`.
use Rattle.std.proofs.Common.{◌≡◌, map, take}
use Rattle.std.specs.List.{flat_map}
use Rattle.dep_model.specs.Deps.{dependencies_of}
use Rattle.fewest_tables.specs.FewestSteps.{group_with, shared_exchanges}
use Rattle.fewest_tables.proofs.exchanging.shared_exchanges.Given as goal

abbrev pub invariant-loop-first : goal.invariant-loop-first
invariant-loop-first l =
    dependencies_of l.rules.items ≡ flat_map shared_exchanges (map (group_with l.lefts) (take l.first-index l.firsts))
