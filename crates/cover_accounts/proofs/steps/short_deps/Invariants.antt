-- What the loop of `short_deps` keeps, in terms of `short_dep`.
use Rattle.std.proofs.Common.{◌≡◌, map, take}
use Rattle.cover_accounts.specs.Gathering.{short_dep}
use Rattle.cover_accounts.proofs.steps.short_deps.Given as goal

abbrev pub invariant-loop-member : goal.invariant-loop-member
invariant-loop-member l = l.list.items ≡ map short_dep (take l.member-index l.members)
