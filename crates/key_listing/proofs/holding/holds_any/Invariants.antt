-- What the loop of `holds_any` keeps: `All`.
use Rattle.std.proofs.Common.{take}
use Rattle.std.specs.Prelude.{All}
use Rattle.attr_sets.specs.Attributes.{IsSubset}
use Rattle.attr_sets.specs.Sets.{attributes}
use Rattle.key_listing.proofs.holding.holds_any.Given as goal

abbrev pub invariant-loop-key : goal.invariant-loop-key
invariant-loop-key l = All (λ k. IsSubset (attributes k) (attributes l.set) → ⊥) (take l.key-index l.found)
