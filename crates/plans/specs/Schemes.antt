-- What makes a list of sets a plan: for the type `Plan` and its makers.
use Rattle.std.specs.Prelude.{◌≡◌, ℕ, ◌<◌, true, List, All}
use Rattle.std.specs.List.{list_any}
use Rattle.attr_sets.specs.Attributes.{below, IsSubset, IsEmpty}
use Rattle.attr_sets.specs.Sets.{attributes}
use Rattle.attr_sets.specs.declared.set.AttrSet.{AttrSet}

-- sets of the code form a plan for n attributes: as `IsPlan` says it of sets of attributes, with a
-- test in place of a position in the list, so that it is a fact without cases
pub record AreSchemes (n : ℕ) (schemes : List AttrSet) : Type 0 where
  pub within : All (λ (scheme : AttrSet). IsSubset (attributes scheme) (below n)) schemes
  pub not_empty : All (λ (scheme : AttrSet). IsEmpty (attributes scheme) → ⊥) schemes
  pub covers : (k : ℕ) → k < n → list_any (λ scheme. attributes scheme k) schemes ≡ true
