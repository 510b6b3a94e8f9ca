-- What is left to prove of `show_set`: what it answers in the case `Part`, by `part_set`.
use Rattle.attr_sets.specs.Sets.{attributes}
use Rattle.basis_proofs.proofs.JoiningLemmas.{part_set}
use Rattle.basis_proofs.proofs.joining.show_set.Goals as goal

pub returns-in-Part : goal.returns-in-Part
returns-in-Part c = record {
  proof =
      part_set c.args.theory.now (attributes c.args.lhs) c.args.attribute c.in-Part.block (rw c.in-Part.is at c.in_ok-deriv.ensures.proof);
}
