-- A multidetermined set with an attribute in it, on its way to a block: for the functions that cut
-- it. `Desk` does not cite it.
use Rattle.std.specs.Prelude.{◌≡◌, ℕ, ◌⊎◌, false, List}
use Rattle.attr_sets.specs.Attributes.{Attributes, below, only, IsSubset, IsEmpty, Disjoint}
use Rattle.dep_model.specs.Dependencies.{Dependency, fd, mvd}
use Rattle.dep_model.specs.Implication.{Implies}

-- a set outside x that x multidetermines and that has attribute a in it; or nothing, where x
-- determines a
pub record IsCandidate (n : ℕ) (ds : List Dependency) (x : Attributes) (a : ℕ) (w : Attributes) : Type 0 where
  pub universe : IsSubset w (below n)
  pub outside : Disjoint w x
  pub implied : Implies n ds (mvd x w)
  pub nothing : w a ≡ false → IsEmpty w
  pub closed : w a ≡ false → Implies n ds (fd x (only a))

-- a dependency whose left side is apart from p cuts nothing off q
abbrev pub LeavesWhole : Attributes → Attributes → Dependency → Type 0
LeavesWhole p q (fd v t) = Disjoint v p → Disjoint q t
LeavesWhole p q (mvd v t) = Disjoint v p → Disjoint q t ⊎ IsSubset q t
