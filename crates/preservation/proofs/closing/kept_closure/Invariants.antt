-- What the loop of `kept_closure` keeps: `grows`, `within`, `kept`, `known`, `schemes` and
-- `fits`; and by what it ends.
use Rattle.std.proofs.Common.{◌≡◌, ◌-◌}
use Rattle.std.specs.Prelude.{All}
use Rattle.attr_sets.specs.Attributes.{IsSubset, count_below}
use Rattle.attr_sets.specs.Sets.{attributes}
use Rattle.attr_sets.specs.declared.set.TheConstants.{MOST_ATTRIBUTES}
use Rattle.dep_model.specs.Dependencies.{ObeysFd}
use Rattle.dep_model.specs.Theories.{width_of, deps_of, theory_of, universe_of}
use Rattle.dep_model.specs.Tuples.{Relation}
use Rattle.fd_closure.specs.Counting.{FitsList}
use Rattle.preservation.specs.SchemeClosures.{IsSchemeClosure, schemes_of_closures, plan_of_closures}
use Rattle.preservation.specs.Keeping.{ObeysInside}
use Rattle.preservation.proofs.closing.kept_closure.Given as goal

abbrev pub invariant-loop-wanted : goal.invariant-loop-wanted
invariant-loop-wanted l = record {
  grows : IsSubset (attributes l.initial.closed) (attributes l.closed);
  within : IsSubset (attributes l.closed) (universe_of l.theory);
  kept : (r : Relation) → ObeysInside (width_of l.theory) (theory_of l.theory) (plan_of_closures l.initial.closures) r
      → ObeysFd (attributes l.initial.closed) (attributes l.closed) r;
  known : All (IsSchemeClosure (width_of l.theory) (theory_of l.theory)) l.closures;
  schemes : schemes_of_closures l.closures ≡ schemes_of_closures l.initial.closures;
  fits : FitsList l.counters (deps_of l.theory);
}

abbrev pub decreases-loop-wanted : goal.decreases-loop-wanted
decreases-loop-wanted l = MOST_ATTRIBUTES - count_below (attributes l.closed) MOST_ATTRIBUTES
