-- What the loop of `with_schemes` keeps: `grows`, `within`, `kept`, `closed_so_far`, `known`,
-- `schemes` and one more.
use Rattle.std.proofs.Common.{◌≡◌, take}
use Rattle.std.specs.Prelude.{All}
use Rattle.attr_sets.specs.Attributes.{IsSubset}
use Rattle.attr_sets.specs.Sets.{attributes}
use Rattle.dep_model.specs.Dependencies.{ObeysFd}
use Rattle.dep_model.specs.Theories.{width_of, deps_of, theory_of, universe_of}
use Rattle.dep_model.specs.Tuples.{Relation}
use Rattle.fd_closure.specs.Counting.{FitsList}
use Rattle.preservation.specs.SchemeClosures.{IsSchemeClosure, schemes_of_closures, plan_of_closures}
use Rattle.preservation.specs.Keeping.{ObeysInside}
use Rattle.preservation.specs.FunctionallyClosed.{IsFunctionallyClosedIn}
use Rattle.preservation.proofs.closing.with_schemes.Given as goal

abbrev pub invariant-loop-i : goal.invariant-loop-i
invariant-loop-i l = record {
  grows : IsSubset (attributes l.initial.more) (attributes l.more);
  within : IsSubset (attributes l.more) (universe_of l.theory);
  kept : (r : Relation) → ObeysInside (width_of l.theory) (theory_of l.theory) (plan_of_closures l.initial.closures) r
      → ObeysFd (attributes l.initial.more) (attributes l.more) r;
  closed_so_far : All (λ scheme. IsFunctionallyClosedIn (width_of l.theory) (theory_of l.theory) (attributes scheme)
      (attributes l.initial.more) (attributes l.more)) (take l.i (schemes_of_closures l.initial.closures));
  known : All (IsSchemeClosure (width_of l.theory) (theory_of l.theory)) l.closures;
  schemes : schemes_of_closures l.closures ≡ schemes_of_closures l.initial.closures;
  fits : FitsList l.counters (deps_of l.theory);
}
