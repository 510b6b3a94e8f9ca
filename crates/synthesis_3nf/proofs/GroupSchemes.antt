-- What is proved of a plan: each scheme of a group is one of a left side, and each member of a cover lies within a scheme.
use Rattle.std.proofs.Common.{◌≡◌, ℕ, true, false, List}
use Rattle.std.specs.Prelude.{All, Contains}
use Rattle.attr_sets.specs.Attributes.{Attributes, below, only, union, IsSubset}
use Rattle.dep_model.specs.Dependencies.{Dependency, fd, is_fd, functional_part, left_of, right_of, IsWithin}
use Rattle.min_cover.specs.Covers.{HaveSameLegal}

-- functional dependencies of the universe that say what the functional part of a list says
pub record AreRules (n : ℕ) (ds rules : List Dependency) : Type 0 where
  pub same_legal : HaveSameLegal n rules (functional_part ds)
  pub functional : All (λ d. is_fd d ≡ true) rules
  pub within : All (IsWithin (below n)) rules

-- the scheme of a left side of a cover: the left side, and attributes that members with it determine, one
-- at least
pub record IsGroupScheme (cover : List Dependency) (x scheme : Attributes) : Type 0 where
  pub left : IsSubset x scheme
  pub member : (a : ℕ) → scheme a ≡ true → x a ≡ false → Contains cover (fd x (only a))
  pub first : ℕ
  pub not_empty : Contains cover (fd x (only first)) × (scheme first ≡ true)

-- a dependency lies within a scheme
abbrev pub LiesIn : Dependency → Attributes → Type 0
LiesIn d scheme = IsSubset (union (left_of d) (right_of d)) scheme

-- each member of a list lies within some scheme of a plan
abbrev pub AreHeld : List Dependency → List Attributes → Type 0
AreHeld cover plan = (d : Dependency) → Contains cover d → (scheme : Attributes) × Contains plan scheme × LiesIn d scheme
