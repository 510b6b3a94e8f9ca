-- What the loop of `losses` keeps: `losses`, `known`, `schemes`, `fits` and `last`.
use Rattle.std.proofs.Common.{◌≡◌, take}
use Rattle.std.specs.Prelude.{All, IfSome}
use Rattle.dep_model.specs.Plans.{schemes_of}
use Rattle.dep_model.specs.Theories.{width_of, deps_of, theory_of}
use Rattle.fd_closure.specs.Counting.{FitsList}
use Rattle.preservation.specs.SchemeClosures.{IsSchemeClosure, schemes_of_closures}
use Rattle.preservation.specs.Keeping.{LossesFrom}
use Rattle.preservation.specs.FunctionallyClosed.{TellsKeptClosure}
use Rattle.preservation.proofs.losing.losses.Given as goal

-- the losses among the dependencies so far
abbrev pub invariant-loop-k : goal.invariant-loop-k
invariant-loop-k l = record {
  losses : LossesFrom (width_of l.theory) (theory_of l.theory) (schemes_of l.schemes) 0
      (take l.k (theory_of l.theory)) l.losses.items;
  known : All (IsSchemeClosure (width_of l.theory) (theory_of l.theory)) l.closures.items;
  schemes : schemes_of_closures l.closures.items ≡ l.schemes;
  fits : FitsList l.counters (deps_of l.theory);
  last : IfSome l.last (TellsKeptClosure (width_of l.theory) (theory_of l.theory) (schemes_of l.schemes));
}
