-- What is left to prove of `unite_mvd`: its clause `concludes`, by `BuilderLemmas` and
-- `WithinLemmas`.
use Rattle.std.proofs.Common.{refl, arith}
use mathlib.Core.Path.{fun_ext}
use Rattle.attr_sets.specs.Sets.{attributes}
use Rattle.dep_model.specs.Dependencies.{mvd}
use Rattle.derivation.specs.Derivs.{tree_of}
use Rattle.attr_sets.proofs.AttributesLemmas.{same_at}
use Rattle.derivation.proofs.WithinLemmas.{tree_of-attributes, conclusion_within}
use Rattle.derivation.proofs.BuilderLemmas.{united_mvd_proves}
use Rattle.derivation.proofs.builders.unite_mvd.Goals as goal

pub returns-clause-concludes : goal.returns-clause-concludes
returns-clause-concludes c s first second =
    let t = tree_of c.args.first.value in
    let u = tree_of c.args.second.value in
    let x = attributes c.args.lhs in
    let y = attributes c.args.left in
    let z = attributes c.args.right in
    let first_in = conclusion_within s t (mvd x y) (tree_of-attributes c.args.first.value) first in
    let second_in = conclusion_within s u (mvd x z) (tree_of-attributes c.args.second.value) second in
    united_mvd_proves s t u x y z x y (attributes c.empty.result) (attributes c.intersection.result) refl refl c.empty.ensures.members
    (fun_ext (λ k. grind (arith, same_at c.intersection.ensures.members k, same_at c.union.ensures.members k))) first_in second_in first second
