-- What the loop of `held_key` keeps: `IsHeldSoFar`.
use Rattle.attr_sets.specs.Sets.{attributes}
use Rattle.key_listing.proofs.ListLemmas.{IsHeldSoFar}
use Rattle.key_listing.proofs.holding.held_key.Given as goal

abbrev pub invariant-loop-key : goal.invariant-loop-key
invariant-loop-key l = IsHeldSoFar l.found (attributes l.set) l.key-index l.held
