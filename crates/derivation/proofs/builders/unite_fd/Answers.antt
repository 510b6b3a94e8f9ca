-- What is left to prove of `unite_fd`: its clause `concludes`, by `BuilderLemmas` and
-- `WithinLemmas`.
use Rattle.std.proofs.Common.{refl}
use Rattle.attr_sets.specs.Sets.{attributes}
use Rattle.dep_model.specs.Dependencies.{fd}
use Rattle.derivation.specs.Derivs.{tree_of}
use Rattle.derivation.proofs.WithinLemmas.{tree_of-attributes, conclusion_within}
use Rattle.derivation.proofs.BuilderLemmas.{united_fd_proves}
use Rattle.derivation.proofs.builders.unite_fd.Goals as goal

pub returns-clause-concludes : goal.returns-clause-concludes
returns-clause-concludes c s y first second =
    let t = tree_of c.args.first.value in
    let u = tree_of c.args.second.value in
    let x = attributes c.args.lhs in
    let z = attributes c.args.rhs in
    let first_in = conclusion_within s t (fd x y) (tree_of-attributes c.args.first.value) first in
    let second_in = conclusion_within s u (fd x z) (tree_of-attributes c.args.second.value) second in
    united_fd_proves s t u x y z x z refl refl first_in.0 second_in.1 first second
