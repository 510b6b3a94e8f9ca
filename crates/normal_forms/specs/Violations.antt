-- What violates a normal form on a scheme, with the right side that is named: for `Chosen` and the
-- laws of normal_forms.
use Rattle.std.specs.Prelude.{◌≡◌, ℕ, ◌<◌, ◌↔◌, false, true, List}
use Rattle.attr_sets.specs.Attributes.{Attributes, only, difference, IsEmpty, IsFirstFrom}
use Rattle.dep_model.specs.Dependencies.{Dependency, fd, functional_part}
use Rattle.dep_model.specs.OnSchemes.{ImpliedOn}
use Rattle.dep_model.specs.Keys.{IsSuperkey, IsPrime, IsPartOn}
use Rattle.dep_model.specs.declared.form.Form.{Form}
use Rattle.dep_model.specs.declared.form.Form.TheVariants.{Third, Bcnf, Fourth}

-- x determines on the scheme attribute a, which lies outside it
abbrev pub DeterminesBeyond : ℕ → List Dependency → Attributes → Attributes → ℕ → Type 0
DeterminesBeyond n ds scheme x a = ImpliedOn n ds scheme (fd x (only a)) × (x a ≡ false)

-- and this attribute is not prime
abbrev pub DeterminesNonPrime : ℕ → List Dependency → Attributes → Attributes → ℕ → Type 0
DeterminesNonPrime n ds scheme x a = DeterminesBeyond n ds scheme x a × (IsPrime n ds scheme a → ⊥)

-- x is no superkey and determines attributes beyond it that are not prime; y is the least of them
pub record ViolatesThird (n : ℕ) (ds : List Dependency) (scheme x y : Attributes) : Type 0 where
  pub no_superkey : IsSuperkey n ds scheme x → ⊥
  pub attribute : ℕ
  pub determined : DeterminesNonPrime n ds scheme x attribute
  pub least : (a : ℕ) → a < attribute → DeterminesNonPrime n ds scheme x a → ⊥
  pub right : y ≡ only attribute

-- x is no superkey and determines attributes beyond it; y has all of them
pub record ViolatesBcnf (n : ℕ) (ds : List Dependency) (scheme x y : Attributes) : Type 0 where
  pub no_superkey : IsSuperkey n ds scheme x → ⊥
  pub not_empty : IsEmpty y → ⊥
  pub right : (a : ℕ) → (y a ≡ true) ↔ DeterminesBeyond n ds scheme x a

-- x is no superkey and has two parts or more; y is the one with the first attribute outside x
pub record ViolatesFourth (n : ℕ) (ds : List Dependency) (scheme x y : Attributes) : Type 0 where
  pub no_superkey : IsSuperkey n ds scheme x → ⊥
  pub part : IsPartOn n ds scheme x y
  pub first : (a : ℕ) → IsFirstFrom (difference scheme x) 0 a → y a ≡ true
  pub other : Attributes
  pub other_part : IsPartOn n ds scheme x other
  pub differ : other ≡ y → ⊥

-- x violates a form on a scheme, with the right side y; third normal form goes by the functional
-- part
abbrev pub Violates : ℕ → List Dependency → Form → Attributes → Attributes → Attributes → Type 0
Violates n ds Third scheme x y = ViolatesThird n (functional_part ds) scheme x y
Violates n ds Bcnf scheme x y = ViolatesBcnf n ds scheme x y
Violates n ds Fourth scheme x y = ViolatesFourth n ds scheme x y
