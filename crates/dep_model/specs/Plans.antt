-- Decompositions: schemes that cover the universe. For each contract in which a plan stands.
use Rattle.std.specs.Prelude.{ℕ, List, map, All}
use Rattle.attr_sets.specs.Attributes.{Attributes, below, IsSubset, IsEmpty}
use Rattle.attr_sets.specs.Sets.{attributes}
use Rattle.attr_sets.specs.declared.set.AttrSet.{AttrSet}
use Rattle.dep_model.specs.Projections.{Covers}

-- a plan for n attributes: schemes with attributes of the universe, that together have all of them
pub record IsPlan (n : ℕ) (plan : List Attributes) : Type 0 where
  pub within : All (λ scheme. IsSubset scheme (below n)) plan
  pub not_empty : All (λ scheme. IsEmpty scheme → ⊥) plan
  pub covers : Covers n plan

-- a list of `AttrSet`, as one of sets of attributes
abbrev pub schemes_of : List AttrSet → List Attributes
schemes_of plan = map attributes plan
