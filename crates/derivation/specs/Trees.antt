-- Derivations as trees, with a rule at each node: for the rule table, certificates and all that
-- derives.
use Rattle.std.specs.Prelude.{ℕ, ◌+◌, max}
use Rattle.attr_sets.specs.Attributes.{Attributes}

-- the rules without premises: a dependency of the schema, and two that state both sides
pub data Leaf : Type 0 where
  given : ℕ → Leaf
  reflexivity : Attributes → Attributes → Leaf
  mreflexivity : Attributes → Attributes → Leaf

-- the rules with one premise: by a set, by a wide set and a narrow one, and without sets
pub data Step : Type 0 where
  augmentation : Attributes → Step
  complementation : Step
  maugmentation : Attributes → Attributes → Step
  replication : Step

-- the rules with two premises
pub data Pair : Type 0 where
  transitivity : Pair
  mtransitivity : Pair
  coalescence : Pair

-- a derivation, as a tree: a rule at each node, after its premises
pub data Tree : Type 0 where
  leaf : Leaf → Tree
  step : Step → Tree → Tree
  pair : Pair → Tree → Tree → Tree

abbrev pub nodes : Tree → ℕ
nodes (leaf rule) = 1
nodes (step rule t) = nodes t + 1
nodes (pair rule t u) = nodes t + nodes u + 1

-- a leaf has depth 1
abbrev pub depth : Tree → ℕ
depth (leaf rule) = 1
depth (step rule t) = depth t + 1
depth (pair rule t u) = max (depth t) (depth u) + 1
