-- What the loop of `take_steps` keeps: `AreTakenUpTo`, and that no two rows agree on the set that is kept.
use Rattle.dep_model.specs.Deps.{dependencies_of}
use Rattle.tableau_chase.specs.Equating.{IsKeptApart}
use Rattle.tableau_chase.proofs.EquatingLemmas.{AreTakenUpTo}
use Rattle.tableau_chase.proofs.functional_closing.take_steps.Given as goal

abbrev pub invariant-loop-dep : goal.invariant-loop-dep
invariant-loop-dep l = record {
  taken : AreTakenUpTo (dependencies_of l.deps) l.dep-index l.initial.rows l.rows l.changed;
  apart : IsKeptApart l.apart l.rows;
}
