-- What the loop of `first_mvd` keeps: `All`.
use Rattle.std.proofs.Common.{◌≡◌, true, take}
use Rattle.std.specs.Prelude.{All}
use Rattle.dep_model.specs.Dependencies.{is_fd}
use Rattle.dep_model.specs.Deps.{dependency_of}
use Rattle.armstrong_rel.proofs.kinds.first_mvd.Given as goal

abbrev pub invariant-loop-k : goal.invariant-loop-k
invariant-loop-k l = All (λ d. is_fd (dependency_of d) ≡ true) (take l.k l.deps)
