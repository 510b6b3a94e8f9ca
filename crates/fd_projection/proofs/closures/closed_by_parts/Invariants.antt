-- What the loop of `closed_by_parts` keeps: the attributes below the one that comes were left out.
use Rattle.attr_sets.specs.Sets.{attributes}
use Rattle.dep_model.specs.Theories.{width_of, theory_of}
use Rattle.fd_projection.proofs.PartLemmas.{IsClosureOfPartsBelow}
use Rattle.fd_projection.proofs.closures.closed_by_parts.Given as goal

abbrev pub invariant-loop-attribute : goal.invariant-loop-attribute
invariant-loop-attribute l =
    IsClosureOfPartsBelow (width_of l.theory) (theory_of l.theory) (attributes l.set) l.attribute (attributes l.found)
