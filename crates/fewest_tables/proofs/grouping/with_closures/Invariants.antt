-- What the loop of `with_closures` keeps: which sets are closed, and that what is kept with each is its closure.
use Rattle.std.proofs.Common.{◌≡◌, take}
use Rattle.std.specs.Prelude.{All}
use Rattle.dep_model.specs.Dependencies.{functional_part}
use Rattle.dep_model.specs.Plans.{schemes_of}
use Rattle.dep_model.specs.Theories.{width_of, theory_of}
use Rattle.fd_closure.specs.Closures.{IsKnownClosure}
use Rattle.fewest_tables.specs.FewestSteps.{sets_of}
use Rattle.fewest_tables.proofs.grouping.with_closures.Given as goal

abbrev pub invariant-loop-left : goal.invariant-loop-left
invariant-loop-left l = record {
  sets : sets_of l.known.items ≡ schemes_of (take l.left-index l.lefts);
  known : All (IsKnownClosure (width_of l.theory) (functional_part (theory_of l.theory))) l.known.items;
}
