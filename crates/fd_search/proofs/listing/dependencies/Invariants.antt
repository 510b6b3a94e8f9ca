-- What the loop of `dependencies` keeps: `dependencies`.
use Rattle.std.proofs.Common.{◌≡◌, map, take}
use Rattle.dep_model.specs.Deps.{dependencies_of}
use Rattle.fd_search.specs.Listing.{fd_of}
use Rattle.fd_search.proofs.listing.dependencies.Given as goal

-- the dependencies so far
abbrev pub invariant-loop-pair : goal.invariant-loop-pair
invariant-loop-pair l = record { dependencies : dependencies_of l.found.items ≡ map fd_of (take l.pair-index l.pairs) }
