-- What the loop of `add_lacking` keeps: what was found of the sets that were tried.
use Rattle.attr_sets.specs.Sets.{attributes}
use Rattle.dep_model.specs.Theories.{width_of, theory_of}
use Rattle.armstrong_rel.specs.Searching.{AreTriedIrreducible}
use Rattle.armstrong_rel.proofs.FoundLemmas.{IsTriedBelow}
use Rattle.armstrong_rel.proofs.irreducible.add_lacking.Given as goal

abbrev pub invariant-loop-attribute : goal.invariant-loop-attribute
invariant-loop-attribute l =
    AreTriedIrreducible (width_of l.theory) (theory_of l.theory)
    (IsTriedBelow (width_of l.theory) (theory_of l.theory) (attributes l.fn.part) l.attribute) l.found.items
