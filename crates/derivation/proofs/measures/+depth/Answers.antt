-- What is left to prove of `depth`: what `depth` requires and that its sums fit, by `DerivLemmas`
-- and `TreeLemmas`.
use Rattle.std.proofs.Common.{arith}
use Rattle.derivation.specs.Derivs.{tree_of}
use Rattle.derivation.proofs.TreeLemmas.{depth-le-nodes}
use Rattle.derivation.proofs.DerivLemmas.{same_nodes, step_nodes, pair_nodes}
use Rattle.derivation.proofs.measures.+depth.Goals as goal

pub depth-requires : goal.depth-requires
depth-requires t c =
    let all = step_nodes c.in-Step.is in
    let premise = same_nodes c.deref.ensures in
    (omega (arith, all, premise), omega (arith, all, premise, c.requires.fits_u32))

pub overflow_add-result : goal.overflow_add-result
overflow_add-result t c =
    omega (arith, step_nodes c.in-Step.is, same_nodes c.deref.ensures, depth-le-nodes (tree_of c.deref.result.now), c.requires.fits_u32)

pub depth-requires-in-Pair : goal.depth-requires-in-Pair
depth-requires-in-Pair t c =
    let all = pair_nodes c.in-Pair.is in
    let premise = same_nodes c.deref-in-Pair.ensures in
    (omega (arith, all, premise), omega (arith, all, premise, c.requires.fits_u32))

pub depth-requires-in-Pair-2 : goal.depth-requires-in-Pair-2
depth-requires-in-Pair-2 t c =
    let all = pair_nodes c.in-Pair.is in
    let premise = same_nodes c.deref-in-Pair-2.ensures in
    (omega (arith, all, premise), omega (arith, all, premise, c.requires.fits_u32))

pub overflow_add-result-in-Pair : goal.overflow_add-result-in-Pair
overflow_add-result-in-Pair t c =
    let first = c.deref-in-Pair in
    let second = c.deref-in-Pair-2 in
    omega (arith, pair_nodes c.in-Pair.is, same_nodes first.ensures, same_nodes second.ensures, depth-le-nodes (tree_of first.result.now), depth-le-nodes (tree_of second.result.now), c.requires.fits_u32)
