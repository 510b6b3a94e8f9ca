-- What is promised of each list within its width, at the list that was read from a schema.
use Rattle.std.proofs.Common.{◌≡◌, ℕ, ◌↔◌, true, List, sym, subst}
use Rattle.std.specs.Prelude.{All}
use Rattle.attr_sets.specs.Attributes.{Attributes, below, IsSubset}
use Rattle.dep_model.specs.declared.dep.Dep.{Dep}
use Rattle.dep_model.specs.Theories.{Theory}
use Rattle.dep_model.specs.Dependencies.{Dependency, functional_part}
use Rattle.dep_model.specs.Deps.{dependencies_of, IsDepWithin}
use Rattle.dep_model.specs.Keys.{InClosure}
use Rattle.dep_model.specs.Theories.{width_of, universe_of, theory_of, deps_of}

-- a fact of the functional part of a list, as one of the schema's
pub of_functional_part : (s : Theory) (deps : List Dep) → deps ≡ deps_of s → (P : ℕ → List Dependency → Type 0) → ((n : ℕ) → All (IsDepWithin (below n)) deps → P n (functional_part (dependencies_of deps)))
    → P (width_of s) (functional_part (theory_of s))
of_functional_part s deps same P holds =
    subst (λ (es : List Dep). P (width_of s) (functional_part (dependencies_of es))) same
    (holds (width_of s) (subst (λ (es : List Dep). All (IsDepWithin (universe_of s)) es) (sym same) s.valid.deps_within))

-- the closure by the functional dependencies of a schema
pub functional_closure_of_schema : (s : Theory) (deps : List Dep) → deps ≡ deps_of s → (x closed : Attributes) → IsSubset x (universe_of s)
    → ((n : ℕ) → All (IsDepWithin (below n)) deps → IsSubset x (below n) → (a : ℕ) → (closed a ≡ true) ↔ InClosure n (functional_part (dependencies_of deps)) x a)
    → (a : ℕ) → (closed a ≡ true) ↔ InClosure (width_of s) (functional_part (theory_of s)) x a
functional_closure_of_schema s deps same x closed low exact =
    of_functional_part s deps same (λ n ds. IsSubset x (below n) → (a : ℕ) → (closed a ≡ true) ↔ InClosure n ds x a) exact low
