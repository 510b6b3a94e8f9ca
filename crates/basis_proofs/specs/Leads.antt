-- The right side of a functional dependency that leads out of a set: for `functional_chain`. `Desk`
-- does not cite it.
use Rattle.std.specs.Prelude.{◌≡◌}
use Rattle.attr_sets.specs.Attributes.{Attributes}
use Rattle.dep_model.specs.Dependencies.{Dependency, fd, LeadsOut}

-- a dependency is functional and leads out of c, and y is its right side
pub record IsRightSideOut (c : Attributes) (d : Dependency) (y : Attributes) : Type 0 where
  pub lhs : Attributes
  pub is : d ≡ fd lhs y
  pub out : LeadsOut c (fd lhs y)
