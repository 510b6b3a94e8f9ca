-- What grows less at each call of `conclude_after`.
use Rattle.derivation.specs.Trees.{nodes}
use Rattle.derivation.specs.Derivs.{tree_of}
use Rattle.derivation.proofs.concluding.+conclude_after.Given as goal

abbrev pub decreases-conclude_after : goal.decreases-conclude_after
decreases-conclude_after l = nodes (tree_of l.deriv.now)
