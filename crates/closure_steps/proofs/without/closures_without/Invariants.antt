-- What the loop of `closures_without` keeps: the attributes below the one that comes are had.
use Rattle.std.specs.Prelude.{All}
use Rattle.attr_sets.specs.Attributes.{IsSubset}
use Rattle.attr_sets.specs.Sets.{attributes}
use Rattle.dep_model.specs.Theories.{width_of, universe_of, theory_of}
use Rattle.closure_steps.proofs.WithoutLemmas.{AreWithoutBelow}
use Rattle.closure_steps.proofs.without.closures_without.Given as goal

abbrev pub invariant-loop-attribute : goal.invariant-loop-attribute
invariant-loop-attribute l = record {
  earlier : AreWithoutBelow (width_of l.theory) (theory_of l.theory) (attributes l.set) l.attribute l.found.items;
  within : All (λ one. IsSubset (attributes one.closed) (universe_of l.theory)) l.found.items;
}
