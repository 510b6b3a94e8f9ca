-- The dependency basis of a set of attributes, and its traces on a scheme: for `basis`,
-- `trace_basis_by` and the command `basis` (`desk_implication/Bases`).
use Rattle.std.specs.Prelude.{◌≡◌, ℕ, ◌<◌, ◌↔◌, ◌⊎◌, true, false, List, All, Any}
use Rattle.attr_sets.specs.Attributes.{Attributes, below, only, difference, IsSubset, Intersects}
use Rattle.attr_sets.specs.declared.set.AttrSet.{AttrSet}
use Rattle.attr_sets.specs.Sets.{attributes}
use Rattle.dep_model.specs.Dependencies.{Dependency, fd, mvd}
use Rattle.dep_model.specs.Implication.{Implies}
use Rattle.dep_model.specs.OnSchemes.{ImpliedOn}
use Rattle.dep_model.specs.Keys.{InClosure, IsBlock, IsPartOn}
use Rattle.dep_basis.specs.declared.gathering.Blocks.{Blocks}
use Rattle.dep_basis.specs.Traces.{IsTrace, blocks_of, AreListed, AreTraces}

-- a set intersects both y and what a scheme has beyond y
abbrev pub IsSplitBy : Attributes → Attributes → Attributes → Type 0
IsSplitBy scheme y p = Intersects p y × Intersects p (difference scheme y)

-- no listed set intersects both y and what the scheme has beyond it
abbrev pub SplitsNone : Attributes → Attributes → List AttrSet → Type 0
SplitsNone scheme y ps = All (λ p. IsSplitBy scheme y (attributes p) → ⊥) ps

-- the dependency basis of x: its closed set, and exactly its blocks
pub record IsBasis (n : ℕ) (ds : List Dependency) (x : Attributes) (found : Blocks) : Type 0 where
  pub closed : (a : ℕ) → (attributes found.closed a ≡ true) ↔ InClosure n ds x a
  pub each : All (λ p. IsBlock n ds x (attributes p)) (blocks_of found)
  pub all : (p : Attributes) → IsBlock n ds x p → Any (λ q. attributes q ≡ p) (blocks_of found)
  pub parts : (a : ℕ) → a < n
      → (attributes found.closed a ≡ true) ⊎ Any (λ p. attributes p a ≡ true) (blocks_of found)
  pub listed : AreListed found
  pub multivalued : (y : Attributes) → IsSubset y (below n)
      → Implies n ds (mvd x y) ↔ SplitsNone (below n) y (blocks_of found)

-- a listed trace, or a single determined attribute outside x
abbrev pub IsListedPart : Attributes → Blocks → Attributes → Type 0
IsListedPart x found p =
    Any (λ q. attributes q ≡ p) (blocks_of found)
    ⊎ ((a : ℕ) × (attributes found.closed a ≡ true) × (x a ≡ false) × (p ≡ only a))

-- the closed set of x and the traces of its blocks on a scheme, which decide what is implied there
pub record IsTraceBasis (n : ℕ) (ds : List Dependency) (scheme x : Attributes) (found : Blocks) : Type 0 where
  pub traces : AreTraces n ds scheme x found
  pub functional : (a : ℕ) → (attributes found.closed a ≡ true) ↔ ImpliedOn n ds scheme (fd x (only a))
  pub multivalued : (y : Attributes) → IsSubset y scheme
      → ImpliedOn n ds scheme (mvd x y) ↔ SplitsNone scheme y (blocks_of found)
  pub all : (q : Attributes) → IsTrace n ds scheme x q → Any (λ p. attributes p ≡ q) (blocks_of found)
  pub part : (p : Attributes) → IsPartOn n ds scheme x p ↔ IsListedPart x found p
