-- A tree within the limits of a certificate that proves something: for `read_concluded`. `Desk`
-- does not cite it.
use Rattle.std.specs.Prelude.{◌≤◌}
use Rattle.schema_model.specs.Schemas.{Schema, theory_in}
use Rattle.dep_model.specs.Dependencies.{Dependency}
use Rattle.derivation.specs.Trees.{Tree, nodes, depth}
use Rattle.derivation.specs.Conclusions.{Proves}
use Rattle.derivation.specs.declared.measures.TheConstants.{MOST_NODES, MOST_LEVELS}

-- a tree within the limits of a certificate proves a dependency
pub record IsChecked (s : Schema) (t : Tree) : Type 0 where
  pub conclusion : Dependency
  pub proves : Proves (theory_in s) t conclusion
  pub nodes_fit : nodes t ≤ MOST_NODES
  pub levels_fit : depth t ≤ MOST_LEVELS
