-- What grows less at each call of `add_lines`.
use Rattle.derivation.specs.Trees.{nodes}
use Rattle.derivation.specs.Derivs.{tree_of}
use Rattle.proof_text.proofs.printing.+add_lines.Given as goal

abbrev pub decreases-add_lines : goal.decreases-add_lines
decreases-add_lines l = nodes (tree_of l.deriv.now)
