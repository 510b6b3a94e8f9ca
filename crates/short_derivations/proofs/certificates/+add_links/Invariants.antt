-- What grows less at each call of `add_links`.
use Rattle.derivation.specs.Trees.{nodes}
use Rattle.derivation.specs.Derivs.{tree_of}
use Rattle.short_derivations.proofs.certificates.+add_links.Given as goal

abbrev pub decreases-add_links : goal.decreases-add_links
decreases-add_links l = nodes (tree_of l.deriv.now)
