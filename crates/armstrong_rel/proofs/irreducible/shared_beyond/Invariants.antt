-- What the loop of `shared_beyond` keeps: `IsSharedBelow`.
use Rattle.attr_sets.specs.Sets.{attributes}
use Rattle.dep_model.specs.Theories.{width_of, theory_of}
use Rattle.armstrong_rel.proofs.SharedLemmas.{IsSharedBelow}
use Rattle.armstrong_rel.proofs.irreducible.shared_beyond.Given as goal

abbrev pub invariant-loop-attribute : goal.invariant-loop-attribute
invariant-loop-attribute l =
    IsSharedBelow (width_of l.theory) (theory_of l.theory) (attributes l.part) l.attribute (attributes l.shared)
