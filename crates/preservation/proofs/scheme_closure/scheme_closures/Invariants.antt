-- What the loop of `scheme_closures` keeps: `known`, `schemes` and `fits`.
use Rattle.std.proofs.Common.{◌≡◌, take}
use Rattle.std.specs.Prelude.{All}
use Rattle.dep_model.specs.Theories.{width_of, deps_of, theory_of}
use Rattle.fd_closure.specs.Counting.{FitsList}
use Rattle.preservation.specs.SchemeClosures.{IsSchemeClosure, schemes_of_closures}
use Rattle.preservation.proofs.scheme_closure.scheme_closures.Given as goal

abbrev pub invariant-loop-scheme : goal.invariant-loop-scheme
invariant-loop-scheme l = record {
  known : All (IsSchemeClosure (width_of l.theory) (theory_of l.theory)) l.closures.items;
  schemes : schemes_of_closures l.closures.items ≡ take l.scheme-index l.schemes;
  fits : FitsList l.counters (deps_of l.theory);
}
