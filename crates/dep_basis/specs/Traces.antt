-- The blocks that code holds, and their traces on a scheme: for `basis` and `trace_basis_by`, by
-- `Bases`, and for the command `basis` (`desk_implication/Bases`).
use Rattle.std.specs.Prelude.{◌≡◌, ℕ, ◌<◌, ◌≤◌, ◌↔◌, ◌⊎◌, true, List, All, AllPairs, Any, take, drop}
use Rattle.attr_sets.specs.Attributes.{Attributes, intersection, IsEmpty, Disjoint, IsFirstFrom}
use Rattle.attr_sets.specs.declared.set.AttrSet.{AttrSet}
use Rattle.attr_sets.specs.Sets.{attributes}
use Rattle.dep_model.specs.Dependencies.{Dependency}
use Rattle.dep_model.specs.Keys.{InClosure, IsBlock}
use Rattle.dep_basis.specs.declared.gathering.Blocks.{Blocks}
use Rattle.dep_basis.specs.declared.pieces.TheConstants.{MOST_BLOCKS}

-- what a block of x has in a scheme, where that is not empty
pub record IsTrace (n : ℕ) (ds : List Dependency) (scheme x q : Attributes) : Type 0 where
  pub block : Attributes
  pub is_block : IsBlock n ds x block
  pub trace : q ≡ intersection block scheme
  pub not_empty : IsEmpty q → ⊥

-- the first member of p is smaller than that of q
abbrev pub BeginsBefore : Attributes → Attributes → Type 0
BeginsBefore p q = (i j : ℕ) → IsFirstFrom p 0 i → IsFirstFrom q 0 j → i < j

-- the blocks that count
abbrev pub blocks_of : Blocks → List AttrSet
blocks_of found = take found.count found.blocks

-- the blocks that count are apart and in the order of their least members, and nothing stands after them
pub record AreListed (found : Blocks) : Type 0 where
  pub within_limit : found.count ≤ MOST_BLOCKS
  pub apart : AllPairs (λ p q. Disjoint (attributes p) (attributes q)) (blocks_of found)
  pub in_order : AllPairs (λ p q. BeginsBefore (attributes p) (attributes q)) (blocks_of found)
  pub rest : All (λ q. IsEmpty (attributes q)) (drop found.count found.blocks)

-- the closed set of x cut to a scheme, and exactly the traces of its blocks there
pub record AreTraces (n : ℕ) (ds : List Dependency) (scheme x : Attributes) (found : Blocks) : Type 0 where
  pub closed : (a : ℕ) → (attributes found.closed a ≡ true) ↔ (scheme a ≡ true) × InClosure n ds x a
  pub each : All (λ q. IsTrace n ds scheme x (attributes q)) (blocks_of found)
  pub parts : (a : ℕ) → scheme a ≡ true
      → (attributes found.closed a ≡ true) ⊎ Any (λ q. attributes q a ≡ true) (blocks_of found)
  pub listed : AreListed found
