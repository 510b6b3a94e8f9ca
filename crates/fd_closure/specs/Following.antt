-- What follows from the functional dependencies of a list: for `follows`, and for what narrows a set by it. `Desk` does
-- not cite it.
use Rattle.std.specs.Prelude.{ℕ, Bool, List, ◌↔◌, IsTrue, All}
use Rattle.attr_sets.specs.Attributes.{Attributes, below, IsSubset}
use Rattle.dep_model.specs.declared.dep.Dep.{Dep}
use Rattle.dep_model.specs.Dependencies.{fd, functional_part}
use Rattle.dep_model.specs.Deps.{dependencies_of, IsDepWithin}
use Rattle.dep_model.specs.Implication.{Implies}

-- an answer says whether x -> y is implied by the functional dependencies of a list, over any number of attributes that
-- holds their sets and both of these
pub record SaysWhetherFollows (deps : List Dep) (x y : Attributes) (answer : Bool) : Type 0 where
  pub over : (n : ℕ) → All (IsDepWithin (below n)) deps → IsSubset x (below n) → IsSubset y (below n)
      → IsTrue answer ↔ Implies n (functional_part (dependencies_of deps)) (fd x y)
