-- What grows less at each call of `seek`.
use Rattle.derivation.specs.Trees.{nodes}
use Rattle.derivation.specs.Derivs.{tree_of}
use Rattle.derivation.proofs.shortening.+seek.Given as goal

abbrev pub decreases-seek : goal.decreases-seek
decreases-seek l = nodes (tree_of l.deriv.value)
