-- How a set grows by the dependencies of a list: for closures. `Desk` does not cite it.
use Rattle.std.specs.Prelude.{ℕ, List, All}
use Rattle.attr_sets.specs.Attributes.{Attributes, IsSubset}
use Rattle.dep_model.specs.declared.dep.Dep.{Dep}
use Rattle.dep_model.specs.Dependencies.{fd, functional_part}
use Rattle.dep_model.specs.Deps.{dependencies_of, IsDepWithin}
use Rattle.dep_model.specs.Implication.{Implies}

-- a set grows to another, which it determines by the functional dependencies of a list, with their
-- attributes alone
pub record Grows (ds : List Dep) (closed more : Attributes) : Type 0 where
  pub holds : IsSubset closed more
  pub within : (universe : Attributes) → All (IsDepWithin universe) ds → IsSubset closed universe
      → IsSubset more universe
  pub implied : (n : ℕ) → Implies n (functional_part (dependencies_of ds)) (fd closed more)
