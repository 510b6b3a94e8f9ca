-- Third normal form, Boyce-Codd form and fourth normal form of a scheme: for normal_forms, the crates
-- that decompose, and their commands.
use Rattle.std.specs.Prelude.{◌≡◌, ℕ, ◌⊎◌, false, List}
use Rattle.attr_sets.specs.Attributes.{Attributes, only, union, IsSubset}
use Rattle.dep_model.specs.Dependencies.{Dependency, fd, mvd, functional_part}
use Rattle.dep_model.specs.OnSchemes.{ImpliedOn}
use Rattle.dep_model.specs.Keys.{IsSuperkey, IsPrime}

-- by the functional part alone: what determines an attribute outside itself is a superkey, or the
-- attribute is prime
abbrev pub IsThird : ℕ → List Dependency → Attributes → Type 0
IsThird n ds scheme =
    (x : Attributes) (a : ℕ) → ImpliedOn n (functional_part ds) scheme (fd x (only a)) → x a ≡ false
    → IsSuperkey n (functional_part ds) scheme x ⊎ IsPrime n (functional_part ds) scheme a

-- what determines an attribute outside itself is a superkey
abbrev pub IsBcnf : ℕ → List Dependency → Attributes → Type 0
IsBcnf n ds scheme =
    (x : Attributes) (a : ℕ) → ImpliedOn n ds scheme (fd x (only a)) → x a ≡ false → IsSuperkey n ds scheme x

-- what multidetermines a set that is neither within it nor all the rest is a superkey
abbrev pub IsFourth : ℕ → List Dependency → Attributes → Type 0
IsFourth n ds scheme =
    (x y : Attributes) → ImpliedOn n ds scheme (mvd x y) → (IsSubset y x → ⊥) → (union x y ≡ scheme → ⊥)
    → IsSuperkey n ds scheme x
