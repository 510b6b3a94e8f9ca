-- Attributes that are in every key, or in none: for the laws of key_listing and its search. `Desk`
-- does not cite it.
use Rattle.std.specs.Prelude.{◌≡◌, ℕ, ◌↔◌, true, false, List}
use Rattle.attr_sets.specs.Attributes.{Attributes, only, intersection, difference, IsSubset}
use Rattle.dep_model.specs.Dependencies.{Dependency}
use Rattle.dep_model.specs.Keys.{IsSuperkey, InClosure}
use Rattle.fd_closure.specs.LeftSides.{left_sides, InLeftSide}

-- an attribute of a scheme that the scheme's others do not determine
pub record IsInEveryKey (n : ℕ) (ds : List Dependency) (scheme : Attributes) (a : ℕ) : Type 0 where
  pub member : scheme a ≡ true
  pub others : IsSuperkey n ds scheme (difference scheme (only a)) → ⊥

-- an attribute of a scheme that is in no given left side, and that the scheme's others determine
pub record IsInNoKey (n : ℕ) (ds : List Dependency) (scheme : Attributes) (a : ℕ) : Type 0 where
  pub member : scheme a ≡ true
  pub unused : InLeftSide ds a → ⊥
  pub others : IsSuperkey n ds scheme (difference scheme (only a))

-- a scheme without its attributes that are in no key
pub record DropsAttributesInNoKey (n : ℕ) (ds : List Dependency) (scheme rest : Attributes) : Type 0 where
  pub within : IsSubset rest scheme
  pub left_out : (a : ℕ) → scheme a ≡ true → (rest a ≡ false) ↔ IsInNoKey n ds scheme a

-- each superkey of a scheme has these attributes
abbrev pub AreInEachSuperkey : ℕ → List Dependency → Attributes → Attributes → Type 0
AreInEachSuperkey n ds scheme in_every_key = (x : Attributes) → IsSuperkey n ds scheme x → IsSubset in_every_key x

-- an attribute of a scheme that stands in no left side, and that the attributes which do, do not determine
pub record IsUndetermined (n : ℕ) (ds : List Dependency) (scheme : Attributes) (a : ℕ) : Type 0 where
  pub member : scheme a ≡ true
  pub unused : left_sides ds a ≡ false
  pub undetermined : InClosure n ds (intersection scheme (left_sides ds)) a → ⊥

-- exactly these attributes
abbrev pub AreUndetermined : ℕ → List Dependency → Attributes → Attributes → Type 0
AreUndetermined n ds scheme rest = (a : ℕ) → (rest a ≡ true) ↔ IsUndetermined n ds scheme a
