-- What is left to prove of `first_of`: what it gives where a set has a first member, by `first_found`.
use Rattle.attr_sets.specs.Sets.{attributes}
use Rattle.design_picture.proofs.PictureLemmas.{first_found}
use Rattle.design_picture.proofs.lines.first_of.Goals as goal

pub returns-in-Some-clause-first : goal.returns-in-Some-clause-first
returns-in-Some-clause-first c =
    first_found (attributes c.args.set) c.in-Some.attribute c.in-Some.ensures.first c.in-Some.ensures.attribute
