-- Which lists are a cover of what a relation obeys: for the law of mvd_laws.
use Rattle.std.specs.Prelude.{◌↔◌, ℕ, List}
use Rattle.attr_sets.specs.Attributes.{Attributes, below, IsSubset}
use Rattle.dep_model.specs.Tuples.{Relation}
use Rattle.dep_model.specs.Dependencies.{Dependency, fd, ObeysFd, Obeys, IsWithin}
use Rattle.dep_model.specs.Implication.{Implies}

-- a list implies exactly the functional dependencies within n attributes that the relation obeys
abbrev pub IsCoverOfFunctional : ℕ → Relation → List Dependency → Type 0
IsCoverOfFunctional n r ds =
    (x y : Attributes) → IsSubset x (below n) → IsSubset y (below n) → Implies n ds (fd x y) ↔ ObeysFd x y r

-- a list implies exactly the dependencies of either kind within n attributes that the relation obeys
abbrev pub IsCoverOfAll : ℕ → Relation → List Dependency → Type 0
IsCoverOfAll n r ds = (d : Dependency) → IsWithin (below n) d → Implies n ds d ↔ Obeys n d r
