-- Pairs of attributes that a scheme outside Boyce-Codd form has: for `split_wide`, by `WideSplits`,
-- and for the laws of wide_bcnf.
use Rattle.std.specs.Prelude.{◌≡◌, ◌≢◌, ℕ, ◌<◌, ◌≤◌, ◌⊎◌, true, List}
use Rattle.attr_sets.specs.Attributes.{Attributes, only, union, difference}
use Rattle.dep_model.specs.Dependencies.{Dependency, fd}
use Rattle.dep_model.specs.Implication.{Implies}

-- a pair of a scheme: two different attributes of it, of which the first is determined by the
-- attributes of the scheme beside the two
pub record IsPair (n : ℕ) (ds : List Dependency) (scheme : Attributes) (a b : ℕ) : Type 0 where
  pub first : scheme a ≡ true
  pub second : scheme b ≡ true
  pub differ : a ≢ b
  pub determined : Implies n ds (fd (difference scheme (union (only a) (only b))) (only a))

-- a scheme has a pair
abbrev pub HasPair : ℕ → List Dependency → Attributes → Type 0
HasPair n ds scheme = (a : ℕ) × (b : ℕ) × IsPair n ds scheme a b

-- the first pair of a scheme: that with the least first attribute, and of those with the least second one
pub record IsFirstPair (n : ℕ) (ds : List Dependency) (scheme : Attributes) (a b : ℕ) : Type 0 where
  pub pair : IsPair n ds scheme a b
  pub least_first : (c d : ℕ) → IsPair n ds scheme c d → a ≤ c
  pub least_second : (d : ℕ) → IsPair n ds scheme a d → b ≤ d

-- no pair of a scheme comes before a and b in this order
abbrev pub NoneBefore : ℕ → List Dependency → Attributes → ℕ → ℕ → Type 0
NoneBefore n ds scheme a b = (c d : ℕ) → IsPair n ds scheme c d → (a < c) ⊎ ((c ≡ a) × (b ≤ d))
