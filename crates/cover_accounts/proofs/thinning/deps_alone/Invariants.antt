-- What the loop of `deps_alone` keeps, in terms of `deps_of_places`.
use Rattle.std.proofs.Common.{◌≡◌, take}
use Rattle.cover_accounts.specs.Gathering.{deps_of_places}
use Rattle.cover_accounts.proofs.thinning.deps_alone.Given as goal

abbrev pub invariant-loop-one : goal.invariant-loop-one
invariant-loop-one l = l.deps.items ≡ deps_of_places (take l.one-index l.list)
