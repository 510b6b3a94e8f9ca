-- The members before the index are functional.
use Rattle.std.proofs.Common.{◌≡◌, true, take}
use Rattle.std.specs.Prelude.{All}
use Rattle.dep_model.specs.Dependencies.{is_fd}
use Rattle.dep_model.specs.Deps.{dependency_of}
use Rattle.fd_closure.proofs.kinds.is_functional.Given as goal

abbrev pub invariant-loop-dep : goal.invariant-loop-dep
invariant-loop-dep l = All (λ d. is_fd (dependency_of d) ≡ true) (take l.dep-index l.deps)
