-- What grows less at each call of `nodes`.
use Rattle.derivation.specs.Trees.{nodes}
use Rattle.derivation.specs.Derivs.{tree_of}
use Rattle.derivation.proofs.measures.+nodes.Given as goal

abbrev pub decreases-nodes : goal.decreases-nodes
decreases-nodes l = nodes (tree_of l.deriv.now)
