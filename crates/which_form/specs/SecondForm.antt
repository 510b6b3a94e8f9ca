-- Second normal form of a scheme (Codd 1971), and what violates it: for `check form 2nf` and `form`.
use Rattle.std.specs.Prelude.{◌≡◌, ℕ, ◌<◌, false, List}
use Rattle.attr_sets.specs.Attributes.{Attributes, only, IsSubset, IsBefore}
use Rattle.dep_model.specs.Dependencies.{Dependency, fd, functional_part}
use Rattle.dep_model.specs.OnSchemes.{ImpliedOn}
use Rattle.dep_model.specs.Keys.{IsKey, IsPrime}
use Rattle.normal_forms.specs.Violations.{DeterminesNonPrime}

-- x is a proper part of a key of the scheme
abbrev pub IsProperPart : ℕ → List Dependency → Attributes → Attributes → Type 0
IsProperPart n ds scheme x = (k : Attributes) × IsKey n ds scheme k × IsSubset x k × (IsSubset k x → ⊥)

-- by the functional part alone: what a proper part of a key determines outside itself is in some key
abbrev pub IsSecond : ℕ → List Dependency → Attributes → Type 0
IsSecond n ds scheme =
    (x : Attributes) (a : ℕ) → IsProperPart n (functional_part ds) scheme x
    → ImpliedOn n (functional_part ds) scheme (fd x (only a)) → x a ≡ false
    → IsPrime n (functional_part ds) scheme a

-- x is a proper part of a key, and determines attributes outside it that are in no key; y is the least of
-- them
pub record ViolatesSecond (n : ℕ) (ds : List Dependency) (scheme x y : Attributes) : Type 0 where
  pub part : IsProperPart n ds scheme x
  pub attribute : ℕ
  pub determined : DeterminesNonPrime n ds scheme x attribute
  pub least : (a : ℕ) → a < attribute → DeterminesNonPrime n ds scheme x a → ⊥
  pub right : y ≡ only attribute

-- x is the first subset of the scheme that does so, in the order of sets, with the right side y
pub record IsFirstInSecond (n : ℕ) (ds : List Dependency) (scheme x y : Attributes) : Type 0 where
  pub within : IsSubset x scheme
  pub violates : ViolatesSecond n ds scheme x y
  pub first : (v w : Attributes) → IsBefore v x → ViolatesSecond n ds scheme v w → ⊥
