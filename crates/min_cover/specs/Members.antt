-- Dependencies with one attribute on the right and a shortened left side: for the fixed cover of
-- `Covers`.
use Rattle.std.specs.Prelude.{◌≡◌, ℕ, true, List, [], map, All}
use Rattle.std.specs.List.{AllZip}
use Rattle.attr_sets.specs.Attributes.{Attributes, below, only, difference}
use Rattle.attr_sets.specs.declared.narrowing.Direction.TheVariants.{Ascending}
use Rattle.attr_sets.specs.Narrowing.{IsNarrowed}
use Rattle.dep_model.specs.declared.dep.Dep.{Dep}
use Rattle.dep_model.specs.Dependencies.{Dependency, fd, mvd, is_fd, functional_part, left_of, right_of}
use Rattle.dep_model.specs.Implication.{Implies}
use Rattle.dep_model.specs.Projections.{members_below}
use Rattle.dep_model.specs.Deps.{dependency_of, dependencies_of, IsDepWithin}

-- a functional dependency as its members: the same left side and one attribute on the right, for each
-- attribute of its right side outside the left side, ascending
abbrev pub members_of : ℕ → Dependency → List Dependency
members_of n (fd x y) = map (λ a. fd x (only a)) (members_below n (difference y x))
members_of n (mvd x y) = []

-- the left side that is left of x where each attribute, from the first to the last, is left out exactly
-- where what stands beside it determines y by the functional dependencies
abbrev pub IsLeftReduced : ℕ → List Dependency → Attributes → Attributes → Attributes → Type 0
IsLeftReduced n ds x y short = IsNarrowed Ascending (λ left. Implies n (functional_part ds) (fd left y)) x x short

-- e is d with its left side shortened
abbrev pub IsLeftReducedDependency : ℕ → List Dependency → Dependency → Dependency → Type 0
IsLeftReducedDependency n ds d e =
    (short : Attributes) × (e ≡ fd short (right_of d)) × IsLeftReduced n ds (left_of d) (right_of d) short

-- functional dependencies within n attributes, one for each of a list, with its left side shortened
pub record AreLeftReduced (n : ℕ) (ds firsts : List Dependency) (members : List Dep) : Type 0 where
  pub short : AllZip (IsLeftReducedDependency n ds) firsts (dependencies_of members)
  pub within : All (IsDepWithin (below n)) members
  pub functional : All (λ d. is_fd (dependency_of d) ≡ true) members
