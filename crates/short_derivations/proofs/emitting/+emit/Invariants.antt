-- What grows less at each call of `emit`.
use Rattle.derivation.specs.Trees.{nodes}
use Rattle.derivation.specs.Derivs.{tree_of}
use Rattle.short_derivations.proofs.emitting.+emit.Given as goal

abbrev pub decreases-emit : goal.decreases-emit
decreases-emit l = nodes (tree_of l.deriv.now)
