-- What is left to prove of `nodes`: what `nodes` requires, by `DerivLemmas`.
use Rattle.std.proofs.Common.{arith}
use Rattle.derivation.proofs.DerivLemmas.{same_nodes, step_nodes, pair_nodes}
use Rattle.derivation.proofs.measures.+nodes.Goals as goal

pub nodes-requires : goal.nodes-requires
nodes-requires t c =
    let all = step_nodes c.in-Step.is in
    let premise = same_nodes c.deref.ensures in
    (omega (arith, all, premise), omega (arith, all, premise, c.requires.fits_u32))

pub nodes-requires-in-Pair : goal.nodes-requires-in-Pair
nodes-requires-in-Pair t c =
    let all = pair_nodes c.in-Pair.is in
    let premise = same_nodes c.deref-in-Pair.ensures in
    (omega (arith, all, premise), omega (arith, all, premise, c.requires.fits_u32))

pub nodes-requires-in-Pair-2 : goal.nodes-requires-in-Pair-2
nodes-requires-in-Pair-2 t c =
    let all = pair_nodes c.in-Pair.is in
    let premise = same_nodes c.deref-in-Pair-2.ensures in
    (omega (arith, all, premise), omega (arith, all, premise, c.requires.fits_u32))
