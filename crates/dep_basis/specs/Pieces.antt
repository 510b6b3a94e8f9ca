-- Blocks that were found so far: for the functions below `basis`, `block` and `has_two_parts`.
-- `Desk` does not cite it.
use Rattle.std.specs.Prelude.{◌≡◌, ℕ, ◌+◌, ◌<◌, ◌≤◌, ◌⊎◌, true, List, length, take, All, Any}
use Rattle.attr_sets.specs.Attributes.{Attributes, below, only, IsSubset, IsEmpty, Disjoint, count_below}
use Rattle.attr_sets.specs.declared.set.AttrSet.{AttrSet}
use Rattle.attr_sets.specs.declared.set.TheConstants.{MOST_ATTRIBUTES}
use Rattle.attr_sets.specs.Sets.{attributes}
use Rattle.dep_model.specs.declared.dep.Dep.{Dep}
use Rattle.dep_model.specs.Dependencies.{Dependency, fd, mvd}
use Rattle.dep_model.specs.Deps.{dependencies_of, IsDepWithin}
use Rattle.dep_model.specs.Implication.{Implies}
use Rattle.dep_model.specs.Keys.{IsBlock}
use Rattle.dep_basis.specs.declared.pieces.TheConstants.{MOST_BLOCKS}
use Rattle.dep_basis.specs.declared.pieces.Pieces.{Pieces}

-- the blocks that were found: the first sets of the array, up to the count
abbrev pub found_blocks : Pieces → List AttrSet
found_blocks found = take found.count found.sets

-- attribute a is determined, or in one of the sets
abbrev pub IsDeterminedOrIn : ℕ → List Dependency → Attributes → List AttrSet → ℕ → Type 0
IsDeterminedOrIn n ds x ps a = Implies n ds (fd x (only a)) ⊎ Any (λ p. attributes p a ≡ true) ps

-- blocks of x, in which each attribute is that x does not determine
pub record ArePieces (n : ℕ) (ds : List Dependency) (x : Attributes) (found : Pieces) : Type 0 where
  pub size : length found.sets ≡ MOST_BLOCKS
  pub within_limit : found.count ≤ MOST_BLOCKS
  pub each : All (λ p. IsBlock n ds x (attributes p)) (found_blocks found)
  pub exhaustive : (a : ℕ) → a < n → IsDeterminedOrIn n ds x (found_blocks found) a

-- a set outside x that x multidetermines, over dependencies within the universe
pub record CanRefine (n : ℕ) (ds : List Dep) (x w : Attributes) : Type 0 where
  pub deps : All (IsDepWithin (below n)) ds
  pub lhs : IsSubset x (below n)
  pub universe : IsSubset w (below n)
  pub outside : Disjoint w x
  pub implied : Implies n (dependencies_of ds) (mvd x w)

-- there is room for one set for each attribute of a piece
pub record HasRoom (w : Attributes) (found : Pieces) : Type 0 where
  pub size : length found.sets ≡ MOST_BLOCKS
  pub room : found.count + count_below w MOST_ATTRIBUTES ≤ MOST_BLOCKS

-- what holds once a piece of x is refined
pub record AreRefined (n : ℕ) (ds : List Dependency) (x w : Attributes) (before after : List AttrSet)
    : Type 0 where
  pub each : All (λ p. IsBlock n ds x (attributes p)) before → All (λ p. IsBlock n ds x (attributes p)) after
  pub exhaustive : (a : ℕ) → w a ≡ true → IsDeterminedOrIn n ds x after a

-- the blocks of a piece were added
pub record IsRefined (ds : List Dep) (w : Attributes) (before after : Pieces) : Type 0 where
  pub size : length after.sets ≡ MOST_BLOCKS
  pub room : after.count ≤ before.count + count_below w MOST_ATTRIBUTES
  pub kept : (a : ℕ) → Any (λ p. attributes p a ≡ true) (found_blocks before)
      → Any (λ p. attributes p a ≡ true) (found_blocks after)
  pub refined : (n : ℕ) (x : Attributes) → CanRefine n ds x w
      → AreRefined n (dependencies_of ds) x w (found_blocks before) (found_blocks after)

-- the block of x with attribute a, or nothing where x determines a
pub record IsPieceWith (n : ℕ) (ds : List Dependency) (x : Attributes) (a : ℕ) (p : Attributes) : Type 0 where
  pub nothing : IsEmpty p → Implies n ds (fd x (only a))
  pub block : (IsEmpty p → ⊥) → IsBlock n ds x p
  pub member : (IsEmpty p → ⊥) → p a ≡ true
