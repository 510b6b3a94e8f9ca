-- What is left to prove of `split_outside`: its clauses `concludes` and `size`, by `BuilderLemmas` and
-- `WithinLemmas`.
use Rattle.std.proofs.Common.{sym, subst, arith}
use Rattle.attr_sets.specs.Attributes.{difference}
use Rattle.attr_sets.specs.Sets.{attributes}
use Rattle.dep_model.specs.Dependencies.{mvd}
use Rattle.derivation.specs.Builders.{IsLittleMore}
use Rattle.derivation.specs.Conclusions.{Proves}
use Rattle.derivation.specs.Derivs.{tree_of}
use Rattle.derivation.specs.Trees.{Tree}
use Rattle.derivation.proofs.WithinLemmas.{tree_of-attributes, conclusion_within}
use Rattle.derivation.proofs.BuilderLemmas.{split_outside_proves}
use Rattle.derivation.proofs.builders.split_outside.Goals as goal

pub returns-clause-concludes : goal.returns-clause-concludes
returns-clause-concludes c v p from_lhs from_v first second =
    let s = c.args.theory.now in
    let t = tree_of c.args.first.value in
    let u = tree_of c.args.second.value in
    let x = attributes c.args.lhs in
    let w = attributes c.args.block in
    let first_in = conclusion_within s t (mvd x w) (tree_of-attributes c.args.first.value) first in
    let second_in = conclusion_within s u (mvd v p) (tree_of-attributes c.args.second.value) second in
    subst (λ (tree : Tree). Proves s tree (mvd x (difference w p))) (sym c.intersect_block.ensures.tree)
    (split_outside_proves s t u x w v p first_in second_in from_lhs from_v first second)

pub returns-clause-size : goal.returns-clause-size
returns-clause-size c =
    subst (λ (tree : Tree). IsLittleMore (tree_of c.args.first.value) (tree_of c.args.second.value) tree) (sym c.intersect_block.ensures.tree)
    (record { node_bound = omega arith; level_bound = omega arith })
