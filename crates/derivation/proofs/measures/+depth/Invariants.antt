-- What grows less at each call of `depth`.
use Rattle.derivation.specs.Trees.{nodes}
use Rattle.derivation.specs.Derivs.{tree_of}
use Rattle.derivation.proofs.measures.+depth.Given as goal

abbrev pub decreases-depth : goal.decreases-depth
decreases-depth l = nodes (tree_of l.deriv.now)
