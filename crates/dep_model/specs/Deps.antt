-- Which dependency a `Dep` of the code stands for: for every contract in which one stands.
use Rattle.std.specs.Prelude.{List, map}
use Rattle.attr_sets.specs.Attributes.{Attributes}
use Rattle.attr_sets.specs.Sets.{attributes}
use Rattle.dep_model.specs.declared.dep.Dep.{Dep}
use Rattle.dep_model.specs.declared.dep.Dep.TheVariants.{Fd, Mvd}
use Rattle.dep_model.specs.Dependencies.{Dependency, fd, mvd, IsWithin}

-- a `Dep` of the code, as a dependency between sets of attributes
abbrev pub dependency_of : Dep → Dependency
dependency_of (Fd lhs rhs) = fd (attributes lhs) (attributes rhs)
dependency_of (Mvd lhs rhs) = mvd (attributes lhs) (attributes rhs)

abbrev pub dependencies_of : List Dep → List Dependency
dependencies_of ds = map dependency_of ds

-- a fact of the sides of a functional dependency; nothing of a multivalued one
abbrev pub IfFd : (Attributes → Attributes → Type 0) → Dep → Type 0
IfFd P (Fd lhs rhs) = P (attributes lhs) (attributes rhs)
IfFd P (Mvd lhs rhs) = Unit {0}

-- the sets of a dependency lie within a set
abbrev pub IsDepWithin : Attributes → Dep → Type 0
IsDepWithin universe d = IsWithin universe (dependency_of d)
