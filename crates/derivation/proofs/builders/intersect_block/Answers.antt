-- What is left to prove of `intersect_block`: its clause `tree`, by the sets that it computes.
use Rattle.std.proofs.Common.{◌≡◌, ap, ◌∙◌, arith}
use mathlib.Core.Path.{fun_ext}
use Rattle.attr_sets.specs.Attributes.{Attributes, difference}
use Rattle.attr_sets.specs.Sets.{attributes}
use Rattle.dep_model.specs.Theories.{universe_of}
use Rattle.derivation.specs.Derivs.{tree_of}
use Rattle.derivation.specs.Trees.{step, pair, complementation, maugmentation, mtransitivity}
use Rattle.attr_sets.proofs.AttributesLemmas.{same_at}
use Rattle.derivation.proofs.builders.intersect_block.Goals as goal

pub returns : goal.returns
returns c =
    let x = attributes c.args.lhs in
    let made = λ (outside empty : Attributes). pair mtransitivity (step (maugmentation x x) (step complementation (tree_of c.args.first.value)))
    (step (maugmentation outside empty) (tree_of c.args.second.value)) in
    let rest : attributes c.difference-outside.result ≡ difference (universe_of c.args.theory.now) (attributes c.args.block) =
    fun_ext (λ k. grind (arith, same_at c.difference-outside.ensures.members k, same_at c.full.ensures.members k, c.width.ensures.count)) in
    record { tree = ap (λ (outside : Attributes). made outside (attributes c.empty.result)) rest ∙ ap (made _) c.empty.ensures.members }
