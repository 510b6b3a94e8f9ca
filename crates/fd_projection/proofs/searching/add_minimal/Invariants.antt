-- What the loop of `add_minimal` keeps: the right sides below the one that comes were tried.
use Rattle.attr_sets.specs.Sets.{attributes}
use Rattle.dep_model.specs.Deps.{dependencies_of}
use Rattle.dep_model.specs.Theories.{width_of, theory_of}
use Rattle.fd_projection.specs.Closures.{AreTriedMinimal}
use Rattle.fd_projection.proofs.FoundLemmas.{TriedTo}
use Rattle.fd_projection.proofs.searching.add_minimal.Given as goal

abbrev pub invariant-loop-attribute : goal.invariant-loop-attribute
invariant-loop-attribute l =
    AreTriedMinimal (width_of l.theory) (theory_of l.theory) (attributes l.fn.set) (TriedTo (attributes l.lhs) l.attribute) (dependencies_of l.found.items)
