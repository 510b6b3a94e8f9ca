-- What derivations are put together to, and how much larger they become: for the functions of
-- `builders.rt`. `Desk` does not cite it.
use Rattle.std.specs.Prelude.{◌+◌, ◌≤◌, max}
use Rattle.attr_sets.specs.Attributes.{Attributes, none, difference}
use Rattle.derivation.specs.Trees.{Tree, step, pair, complementation, maugmentation, mtransitivity, nodes, depth}

-- a tree has at most six nodes more than two others together, and at most five levels more than the
-- deeper one
pub record IsLittleMore (t u grown : Tree) : Type 0 where
  pub node_bound : nodes grown ≤ nodes t + nodes u + 6
  pub level_bound : depth grown ≤ max (depth t) (depth u) + 5

-- from trees of x ->> w and v ->> t over these attributes, where w is disjoint from x and v, one of x ->>
-- what w and t share: by x ->> all - w and all - w ->> t
abbrev pub intersected_block : Attributes → Attributes → Attributes → Tree → Tree → Tree
intersected_block all x w first second =
    pair mtransitivity (step (maugmentation x x) (step complementation first))
    (step (maugmentation (difference all w) none) second)
