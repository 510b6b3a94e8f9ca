-- What is found among the keys of a scheme: for the search of the first proper part that determines one of
-- some attributes. `Desk` does not cite it.
use Rattle.std.specs.Prelude.{◌≡◌, ℕ, ◌<◌, ◌↔◌, Bool, true, List, Option, Some, None, IfSome, IsTrue, All}
use Rattle.attr_sets.specs.Attributes.{Attributes, below, only, IsSubset, IsBefore}
use Rattle.attr_sets.specs.declared.set.AttrSet.{AttrSet}
use Rattle.attr_sets.specs.Sets.{attributes}
use Rattle.dep_model.specs.declared.dep.Dep.{Dep}
use Rattle.dep_model.specs.Dependencies.{Dependency, functional_part}
use Rattle.dep_model.specs.Deps.{dependencies_of, IsDepWithin}
use Rattle.dep_model.specs.Keys.{IsKey, InClosure, IsPrime}
use Rattle.dep_model.specs.Theories.{width_of}
use Rattle.dep_model.specs.Theories.{Theory}
use Rattle.normal_forms.specs.Primes.{ArePrime}
use Rattle.which_form.specs.declared.found.Found.{Found}
use Rattle.which_form.specs.declared.ranges.KeyRange.{KeyRange}
use Rattle.which_form.specs.KeyRanges.{functional_of}
use Rattle.which_form.specs.SecondForm.{IsProperPart}

-- ---- determining one of some attributes
-- x determines one of them
abbrev pub DeterminesSome : ℕ → List Dependency → Attributes → Attributes → Type 0
DeterminesSome n ds wanted x = (a : ℕ) × (wanted a ≡ true) × InClosure n ds x a

-- an answer says whether x determines one of them by the functional dependencies of a list
pub record SaysWhetherDetermines (deps : List Dep) (x wanted : Attributes) (answer : Bool) : Type 0 where
  pub over : (n : ℕ) → All (IsDepWithin (below n)) deps → IsSubset x (below n)
      → IsTrue answer ↔ DeterminesSome n (functional_part (dependencies_of deps)) wanted x

-- y has the least of them that x determines, and nothing else
pub record IsLeastDetermined (n : ℕ) (ds : List Dependency) (wanted x y : Attributes) : Type 0 where
  pub attribute : ℕ
  pub member : wanted attribute ≡ true
  pub determined : InClosure n ds x attribute
  pub least : (a : ℕ) → a < attribute → wanted a ≡ true → InClosure n ds x a → ⊥
  pub right : y ≡ only attribute

-- ---- what is found
-- some attributes of a scheme are in no key
pub record AreInNoKey (n : ℕ) (ds : List Dependency) (scheme wanted : Attributes) : Type 0 where
  pub within : IsSubset wanted scheme
  pub none : (a : ℕ) → wanted a ≡ true → IsPrime n ds scheme a → ⊥

-- x is a proper part of a key that determines one of some attributes
abbrev pub IsDeterminingPart : ℕ → List Dependency → Attributes → Attributes → Attributes → Type 0
IsDeterminingPart n ds scheme wanted x = IsProperPart n ds scheme x × DeterminesSome n ds wanted x

-- a set was found, and x does not come before it
abbrev pub IsNotBefore : Attributes → Option AttrSet → Type 0
IsNotBefore x (Some first) = IsBefore x (attributes first) → ⊥
IsNotBefore x None = ⊥

-- what was found is so: the attributes are prime, and the set is such a part
pub record IsFound (n : ℕ) (ds : List Dependency) (scheme wanted : Attributes) (found : Found)
    : Type 0 where
  pub prime : ArePrime n ds scheme (attributes found.in_keys)
  pub part : IfSome found.first (λ x. IsDeterminingPart n ds scheme wanted (attributes x))

-- it has all of a key: its attributes, and no such part of it comes before the set
pub record HasAllOf (n : ℕ) (ds : List Dependency) (wanted : Attributes) (found : Found) (k : Attributes)
    : Type 0 where
  pub members : IsSubset k (attributes found.in_keys)
  pub parts : (x : Attributes) → IsSubset x k → (IsSubset k x → ⊥) → DeterminesSome n ds wanted x
      → IsNotBefore x found.first

-- what was found later has all of each key of which all was found
abbrev pub KeepsAll : ℕ → List Dependency → Attributes → Found → Found → Type 0
KeepsAll n ds wanted earlier later =
    (k : Attributes) → HasAllOf n ds wanted earlier k → HasAllOf n ds wanted later k

-- all of each key between two sets was found
abbrev pub HasAllBetween : ℕ → List Dependency → Attributes → Attributes → Attributes → Attributes → Found
    → Type 0
HasAllBetween n ds scheme wanted least most found =
    (k : Attributes) → IsKey n ds scheme k → IsSubset least k → IsSubset k most
    → HasAllOf n ds wanted found k

-- ---- the same by the functional dependencies of a theory, for the scheme of a range
abbrev pub AreWanted : Theory → KeyRange → AttrSet → Type 0
AreWanted s range wanted =
    AreInNoKey (width_of s) (functional_of s) (attributes range.scheme) (attributes wanted)

abbrev pub IsFoundIn : Theory → KeyRange → AttrSet → Found → Type 0
IsFoundIn s range wanted found =
    IsFound (width_of s) (functional_of s) (attributes range.scheme) (attributes wanted) found

abbrev pub KeepsAllIn : Theory → AttrSet → Found → Found → Type 0
KeepsAllIn s wanted earlier later = KeepsAll (width_of s) (functional_of s) (attributes wanted) earlier later

abbrev pub HasAllIn : Theory → KeyRange → AttrSet → Attributes → Attributes → Found → Type 0
HasAllIn s range wanted least most found =
    HasAllBetween (width_of s) (functional_of s) (attributes range.scheme) (attributes wanted) least most found
