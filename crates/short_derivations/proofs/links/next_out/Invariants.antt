-- What the loop of `next_out` keeps: `All`.
use Rattle.std.proofs.Common.{take}
use Rattle.std.specs.Prelude.{All}
use Rattle.attr_sets.specs.Attributes.{IsSubset}
use Rattle.attr_sets.specs.Sets.{attributes}
use Rattle.short_derivations.specs.declared.links.Link.{Link}
use Rattle.short_derivations.proofs.links.next_out.Given as goal

abbrev pub invariant-loop-link : goal.invariant-loop-link
invariant-loop-link l =
    All (λ (link : Link). IsSubset (attributes link.lhs) (attributes l.closed) → IsSubset (attributes link.rhs) (attributes l.closed))
    (take l.link-index l.links)
