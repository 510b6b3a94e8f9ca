-- What grows less at each call of `shorten_all`.
use Rattle.derivation.specs.Trees.{nodes}
use Rattle.derivation.specs.Derivs.{tree_of}
use Rattle.derivation.proofs.shortening.+shorten_all.Given as goal

abbrev pub decreases-shorten_all : goal.decreases-shorten_all
decreases-shorten_all l = nodes (tree_of l.deriv.value)
