-- What is left to prove of `unless_shape`: what is kept is no longer than a shape that proves the same, since none is
-- smaller than the one that was found.
use Rattle.std.proofs.Common.{◌≡◌, Option, ap, subst, ◌∙◌, arith}
use Rattle.attr_sets.specs.Sets.{attributes}
use Rattle.dep_model.specs.Dependencies.{mvd}
use Rattle.derivation.specs.Trees.{Tree, nodes, depth}
use Rattle.derivation.specs.Derivs.{tree_of}
use Rattle.derivation.specs.Conclusions.{Proves}
use Rattle.short_proofs.specs.declared.shapes.Shape.{Shape}
use Rattle.short_proofs.specs.Shapes.{HasAtMost, shape_nodes}
use Rattle.short_proofs.proofs.ShapeLemmas.{nodes-shape, shape_given, shape_small}
use Rattle.short_proofs.proofs.proving.unless_shape.Goals as goal

pub returns-in_ok-shape_deriv-in-Some-clause-shapes : goal.returns-in_ok-shape_deriv-in-Some-clause-shapes
returns-in_ok-shape_deriv-in-Some-clause-shapes c = λ t is proves.
    let s = c.args.theory.now in
    let d = mvd (attributes c.args.lhs) (attributes c.args.rhs) in
    let f = c.in-Some.shape in
    let shown = subst (λ (u : Tree). Proves s u d) is.10 proves in
    let low = shape_given s is.0 is.1 is.2 is.3 is.4 is.5 is.6 is.7 is.8 is.9 d shown in
    let most = subst (λ (o : Option Shape). HasAtMost o (shape_nodes is.1 is.2 is.3 is.6 is.7)) c.in-Some.is (c.smallest_shape.ensures.no_larger is.0 is.1 is.2 is.3 is.6 is.7 low is.4 is.5 is.8 is.9 shown) in
    let other : nodes t ≡ shape_nodes is.1 is.2 is.3 is.6 is.7 = ap nodes is.10 ∙ nodes-shape is.0 is.1 is.2 is.3 is.4 is.5 is.6 is.7 is.8 is.9 in
    let own : nodes (tree_of c.in_ok-shape_deriv-in-Some.field-0.value) ≡ shape_nodes f.replicated f.complemented f.augmented f.turned f.again =
    ap nodes c.in_ok-shape_deriv-in-Some.ensures.tree ∙ nodes-shape f.number f.replicated f.complemented f.augmented (attributes f.wide) (attributes f.narrow) f.turned f.again (attributes f.wide_again) (attributes f.narrow_again) in
    let short = c.shorter.ensures.than_other in
    omega (arith, most, other, own, short)

pub returns-in-None-clause-shapes : goal.returns-in-None-clause-shapes
returns-in-None-clause-shapes c = λ t is proves.
    let s = c.args.theory.now in
    let d = mvd (attributes c.args.lhs) (attributes c.args.rhs) in
    let shown = subst (λ (u : Tree). Proves s u d) is.10 proves in
    let low = shape_given s is.0 is.1 is.2 is.3 is.4 is.5 is.6 is.7 is.8 is.9 d shown in
    absurd (subst (λ (o : Option Shape). HasAtMost o (shape_nodes is.1 is.2 is.3 is.6 is.7)) c.in-None.is (c.smallest_shape.ensures.no_larger is.0 is.1 is.2 is.3 is.6 is.7 low is.4 is.5 is.8 is.9 shown))

pub shorter-requires-clause-small : goal.shorter-requires-clause-small
shorter-requires-clause-small c =
    let f = c.in-Some.shape in
    let small = shape_small f.number f.replicated f.complemented f.augmented (attributes f.wide) (attributes f.narrow) f.turned f.again (attributes f.wide_again) (attributes f.narrow_again) in
    let nodes_are = ap nodes c.in_ok-shape_deriv-in-Some.ensures.tree in
    let depth_is = ap depth c.in_ok-shape_deriv-in-Some.ensures.tree in
    record { node_bound = omega (arith, small.0, nodes_are); level_bound = omega (arith, small.1, depth_is) }
