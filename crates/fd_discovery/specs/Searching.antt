-- The minimal dependencies that were found so far: for the functions below `discover`. `Desk` does
-- not cite it.
use Rattle.std.specs.Prelude.{◌≡◌, ◌<◌, ◌⊎◌, ℕ, true, false, List, All, AllPairs, Any}
use Rattle.attr_sets.specs.Attributes.{Attributes, below, only, IsSubset, IsBefore}
use Rattle.dep_model.specs.Tuples.{Relation}
use Rattle.dep_model.specs.Dependencies.{Dependency, fd, left_of, right_of, ObeysFd}
use Rattle.dep_model.specs.Deps.{dependencies_of}
use Rattle.dep_model.specs.declared.dep.Dep.{Dep}
use Rattle.fd_discovery.specs.Minimal.{IsMinimalWithin, Precedes}

-- a listed dependency gives attribute a from x: its left side lies within x
abbrev pub IsListedFrom : List Dependency → Attributes → ℕ → Type 0
IsListedFrom ds x a = Any (λ d. IsSubset (left_of d) x × (right_of d a ≡ true)) ds

-- the attributes outside x that no listed dependency gives from x
pub record AreUndetermined (n : ℕ) (ds : List Dependency) (x wanted : Attributes) : Type 0 where
  pub within : IsSubset wanted (below n)
  pub outside : (a : ℕ) → wanted a ≡ true → x a ≡ false
  pub none : (a : ℕ) → wanted a ≡ true → IsListedFrom ds x a → ⊥
  pub rest : (a : ℕ) → a < n → wanted a ≡ false → x a ≡ false → IsListedFrom ds x a

-- x -> a is tried before y -> b: sets ascending, then attributes ascending
abbrev pub IsTried : Attributes → ℕ → Attributes → ℕ → Type 0
IsTried y b x a = IsBefore x y ⊎ ((x ≡ y) × (a < b))

-- a listed dependency is one of the minimal ones that were tried before y -> b
abbrev pub IsFoundBefore : ℕ → Relation → Attributes → ℕ → Dependency → Type 0
IsFoundBefore n r y b d =
    (x : Attributes) × (a : ℕ) × (d ≡ fd x (only a)) × IsMinimalWithin n r x a × IsTried y b x a

-- minimal dependencies that were tried before y -> b. They give all that the rows obey of what was tried
pub record AreFound (n : ℕ) (r : Relation) (y : Attributes) (b : ℕ) (ds : List Dependency) : Type 0 where
  pub each : All (IsFoundBefore n r y b) ds
  pub ascending : AllPairs Precedes ds
  pub given : (x : Attributes) (a : ℕ) → IsSubset x (below n) → a < n → x a ≡ false → IsTried y b x a
      → ObeysFd x (only a) r → IsListedFrom ds x a

-- the same, where all attributes of the sets before y were tried
abbrev pub AreFoundBefore : ℕ → Relation → Attributes → List Dep → Type 0
AreFoundBefore n r y found = AreFound n r y 0 (dependencies_of found)

-- and where those of y were too
abbrev pub AreFoundUpTo : ℕ → Relation → Attributes → List Dep → Type 0
AreFoundUpTo n r y found = AreFound n r y n (dependencies_of found)
