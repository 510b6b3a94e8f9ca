-- Superkeys, keys, closures, the blocks of the dependency basis and the parts of a scheme: for
-- normal forms, keys and bases.
use Rattle.std.specs.Prelude.{◌≡◌, ℕ, ◌<◌, true, List}
use Rattle.attr_sets.specs.declared.narrowing.Direction.TheVariants.{Descending}
use Rattle.attr_sets.specs.Attributes.{Attributes, below, only, IsSubset, IsEmpty, Disjoint}
use Rattle.attr_sets.specs.Narrowing.{IsNarrowed}
use Rattle.dep_model.specs.Dependencies.{Dependency, fd, mvd}
use Rattle.dep_model.specs.Implication.{Implies}
use Rattle.dep_model.specs.OnSchemes.{ImpliedOn}

-- k lies within the scheme and determines all of it
abbrev pub IsSuperkey : ℕ → List Dependency → Attributes → Attributes → Type 0
IsSuperkey n ds scheme k = ImpliedOn n ds scheme (fd k scheme)

-- a superkey of which no proper subset is one
pub record IsKey (n : ℕ) (ds : List Dependency) (scheme k : Attributes) : Type 0 where
  pub superkey : IsSuperkey n ds scheme k
  pub minimal : (j : Attributes) → IsSubset j k → IsSuperkey n ds scheme j → IsSubset k j

-- an attribute of some key of the scheme
abbrev pub IsPrime : ℕ → List Dependency → Attributes → ℕ → Type 0
IsPrime n ds scheme a = (k : Attributes) × IsKey n ds scheme k × (k a ≡ true)

-- the key that is left where each attribute of the scheme, from the last to the first, is left out
-- exactly where what stands beside it is still a superkey
abbrev pub IsGreedyKey : ℕ → List Dependency → Attributes → Attributes → Type 0
IsGreedyKey n ds scheme k = IsNarrowed Descending (IsSuperkey n ds scheme) scheme scheme k

-- attribute a is in the closure of x
abbrev pub InClosure : ℕ → List Dependency → Attributes → ℕ → Type 0
InClosure n ds x a = (a < n) × Implies n ds (fd x (only a))

-- a block of x: a minimal non-empty set of attributes outside the closure that x multidetermines
pub record IsBlock (n : ℕ) (ds : List Dependency) (x p : Attributes) : Type 0 where
  pub universe : IsSubset p (below n)
  pub outside : (a : ℕ) → p a ≡ true → InClosure n ds x a → ⊥
  pub not_empty : IsEmpty p → ⊥
  pub implied : Implies n ds (mvd x p)
  pub minimal : (q : Attributes) → IsSubset q p → (IsEmpty q → ⊥) → Implies n ds (mvd x q) → IsSubset p q

-- a part of x on a scheme: a minimal non-empty set outside x that x multidetermines on the scheme. What a
-- block of x has there is one, and so is each attribute that x determines, which is in no block
pub record IsPartOn (n : ℕ) (ds : List Dependency) (scheme x p : Attributes) : Type 0 where
  pub outside : Disjoint p x
  pub not_empty : IsEmpty p → ⊥
  pub implied : ImpliedOn n ds scheme (mvd x p)
  pub minimal : (q : Attributes) → IsSubset q p → (IsEmpty q → ⊥) → ImpliedOn n ds scheme (mvd x q) → IsSubset p q
