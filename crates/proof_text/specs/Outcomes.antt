-- What a node of the code concludes, as a tree and a dependency: for the reader of certificates.
-- `Desk` does not cite it.
use Rattle.std.specs.Prelude.{Result, Ok, Err}
use Rattle.dep_model.specs.declared.dep.Dep.{Dep}
use Rattle.dep_model.specs.Dependencies.{Dependency}
use Rattle.dep_model.specs.Deps.{dependency_of}
use Rattle.derivation.specs.declared.deriv.Deriv.{Deriv}
use Rattle.derivation.specs.declared.fault.FaultKind.{FaultKind}
use Rattle.derivation.specs.Derivs.{tree_of}
use Rattle.derivation.specs.Trees.{Tree}

-- a derivation and what it concludes, as a tree and a dependency
abbrev pub concluded_outcome : Result (Deriv × Dep) FaultKind → Result (Tree × Dependency) FaultKind
concluded_outcome (Ok x) = Ok (tree_of x.0, dependency_of x.1)
concluded_outcome (Err why) = Err why
