-- When a left side has two parts on a scheme: for `has_two_parts`, the laws of dep_basis and
-- normal_forms. `Desk` does not cite it.
use Rattle.std.specs.Prelude.{◌≡◌, ℕ, ◌⊎◌, true, List}
use Rattle.attr_sets.specs.Attributes.{Attributes, below, only, difference, IsSubset, Intersects}
use Rattle.dep_model.specs.Dependencies.{Dependency, fd, mvd}
use Rattle.dep_model.specs.Implication.{Implies}
use Rattle.dep_model.specs.OnSchemes.{ImpliedOn}

-- x multidetermines on a scheme some of what lies beyond x, and not all of it
pub record HasTwoParts (n : ℕ) (ds : List Dependency) (scheme x : Attributes) : Type 0 where
  pub rhs : Attributes
  pub implied : ImpliedOn n ds scheme (mvd x rhs)
  pub not_empty : Intersects (difference scheme x) rhs
  pub rest : Intersects (difference scheme x) (difference scheme rhs)

-- x determines an attribute of a set, or multidetermines some of the set and not all of it
abbrev pub IsParted : ℕ → List Dependency → Attributes → Attributes → Type 0
IsParted n ds x beyond =
    ((a : ℕ) × (beyond a ≡ true) × Implies n ds (fd x (only a)))
    ⊎ ((w : Attributes) × IsSubset w (below n) × Implies n ds (mvd x w) × Intersects beyond w
    × Intersects beyond (difference beyond w))
