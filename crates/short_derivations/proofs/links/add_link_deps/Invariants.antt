-- What the loop of `add_link_deps` keeps, in terms of `deps_of_links`.
use Rattle.std.proofs.Common.{◌≡◌, ◌++◌, take}
use Rattle.short_derivations.specs.Links.{deps_of_links}
use Rattle.short_derivations.proofs.links.add_link_deps.Given as goal

abbrev pub invariant-loop-link : goal.invariant-loop-link
invariant-loop-link l = l.deps.items ≡ l.initial.deps.items ++ deps_of_links (take l.link-index l.links)
