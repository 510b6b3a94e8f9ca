-- Closures by the dependencies of a schema that are all functional.
use Rattle.std.proofs.Common.{◌≡◌, ℕ, ◌↔◌, true, List, subst}
use Rattle.std.specs.Prelude.{All}
use Rattle.attr_sets.specs.Attributes.{Attributes, below, IsSubset}
use Rattle.dep_model.specs.declared.dep.Dep.{Dep}
use Rattle.dep_model.specs.Theories.{Theory}
use Rattle.dep_model.specs.Dependencies.{Dependency, functional_part}
use Rattle.dep_model.specs.Deps.{dependencies_of, IsDepWithin}
use Rattle.dep_model.specs.Keys.{InClosure}
use Rattle.dep_model.specs.Theories.{width_of, universe_of, theory_of, deps_of}
use Rattle.fd_closure.proofs.SchemaLemmas.{functional_closure_of_schema}
use Rattle.fd_closure.specs.Closures.{IsClosureOf}
use Rattle.armstrong_rel.specs.Refusals.{IsFunctional}

-- the closure by the functional part of a functional schema is that by all dependencies
pub closure_known : (s : Theory) (deps : List Dep) → deps ≡ deps_of s → (x closed : Attributes) → IsFunctional s
    → IsSubset x (universe_of s)
    → ((n : ℕ) → All (IsDepWithin (below n)) deps → IsSubset x (below n) → (a : ℕ) → (closed a ≡ true) ↔ InClosure n (functional_part (dependencies_of deps)) x a)
    → IsClosureOf (width_of s) (theory_of s) x closed
closure_known s deps same x closed functional low exact =
    subst (λ (ds : List Dependency). IsClosureOf (width_of s) ds x closed) functional
    (functional_closure_of_schema s deps same x closed low exact)
