-- All keys of a scheme in order, or one more than are listed: for `keys`, `keys_of_scheme` and the
-- command `keys` (`desk_keys/Keys`); the rest is for the search.
use Rattle.std.specs.Prelude.{◌≡◌, ℕ, ◌+◌, ◌^◌, ◌<◌, ◌≤◌, List, length, All, AllPairs, Any}
use Rattle.attr_sets.specs.Attributes.{Attributes, union, difference, IsSubset, IsBefore}
use Rattle.attr_sets.specs.declared.set.AttrSet.{AttrSet}
use Rattle.attr_sets.specs.declared.set.TheConstants.{MOST_ATTRIBUTES}
use Rattle.attr_sets.specs.Sets.{attributes}
use Rattle.dep_model.specs.Dependencies.{Dependency, left_of, right_of}
use Rattle.dep_model.specs.Keys.{IsKey}
use Rattle.key_listing.specs.declared.refusal.TheConstants.{MOST_KEYS}

-- exactly the keys of a scheme, ascending
pub record AreAllKeys (n : ℕ) (ds : List Dependency) (scheme : Attributes) (keys : List AttrSet) : Type 0 where
  pub each : All (λ k. IsKey n ds scheme (attributes k)) keys
  pub all : (k : Attributes) → IsKey n ds scheme k → Any (λ j. attributes j ≡ k) keys
  pub ascending : AllPairs (λ j k. IsBefore (attributes j) (attributes k)) keys

-- one key of a scheme more than are listed, ascending, so all different
pub record AreManyKeys (n : ℕ) (ds : List Dependency) (scheme : Attributes) (found : List AttrSet) : Type 0 where
  pub each : All (λ k. IsKey n ds scheme (attributes k)) found
  pub ascending : AllPairs (λ j k. IsBefore (attributes j) (attributes k)) found
  pub count : length found ≡ MOST_KEYS + 1

-- different keys of a scheme, one more than are listed at most
pub record AreSomeKeys (n : ℕ) (ds : List Dependency) (scheme : Attributes) (found : List AttrSet) : Type 0 where
  pub each : All (λ k. IsKey n ds scheme (attributes k)) found
  pub differ : AllPairs (λ j k. attributes j ≡ attributes k → ⊥) found
  pub within_limit : length found ≤ MOST_KEYS + 1
  -- each is the number of a set
  pub numbers : All (λ k. k.0 < 2 ^ MOST_ATTRIBUTES) found

-- some listed set lies within x
abbrev pub HoldsAny : List AttrSet → Attributes → Type 0
HoldsAny found x = Any (λ k. IsSubset (attributes k) x) found

-- the same, unless more are listed than are wanted
abbrev pub HoldsAnyUnlessMany : List AttrSet → Attributes → Type 0
HoldsAnyUnlessMany found x = length found ≤ MOST_KEYS → HoldsAny found x

-- the keys of a scheme that were found: all of them, unless there are more than are listed
pub record AreFoundKeys (n : ℕ) (ds : List Dependency) (scheme : Attributes) (found : List AttrSet) : Type 0 where
  pub each : All (λ k. IsKey n ds scheme (attributes k)) found
  pub ascending : AllPairs (λ j k. IsBefore (attributes j) (attributes k)) found
  pub within_limit : length found ≤ MOST_KEYS + 1
  pub all : length found ≤ MOST_KEYS → (k : Attributes) → IsKey n ds scheme k → Any (λ j. attributes j ≡ k) found

-- what a dependency makes of a key: its left side, and the key without its right side
abbrev pub exchanged_key : Dependency → Attributes → Attributes
exchanged_key d k = union (left_of d) (difference k (right_of d))

-- with each dependency, a key gives a set that some listed one lies within
abbrev pub IsExchangedBy : List Dependency → List AttrSet → Attributes → Type 0
IsExchangedBy ds found k = All (λ d. HoldsAny found (exchanged_key d k)) ds

-- the same, unless more are listed than are wanted
abbrev pub IsExchangedUnlessMany : List Dependency → List AttrSet → Attributes → Type 0
IsExchangedUnlessMany ds found k = length found ≤ MOST_KEYS → IsExchangedBy ds found k
