-- City, street and zip: the example for the law that a scheme can be in third normal form and not
-- in Boyce-Codd form. `Desk` does not cite it.
use Rattle.std.specs.Prelude.{List, [], ◌∷◌}
use Rattle.attr_sets.specs.Attributes.{only, union}
use Rattle.dep_model.specs.Dependencies.{Dependency, fd}

-- city, street and zip, in this order: city and street determine the zip, and the zip determines the city
abbrev pub address : List Dependency
address = fd (union (only 0) (only 1)) (only 2) ∷ fd (only 2) (only 0) ∷ []
