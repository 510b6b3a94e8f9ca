-- What the loop of `first_pair` keeps: `NoneBefore`.
use Rattle.attr_sets.specs.Sets.{attributes}
use Rattle.dep_model.specs.Theories.{width_of, theory_of}
use Rattle.wide_bcnf.specs.Pairs.{NoneBefore}
use Rattle.wide_bcnf.proofs.pairs.first_pair.Given as goal

abbrev pub invariant-loop-first : goal.invariant-loop-first
invariant-loop-first l = NoneBefore (width_of l.fn.theory) (theory_of l.fn.theory) (attributes l.fn.scheme) l.first l.least
