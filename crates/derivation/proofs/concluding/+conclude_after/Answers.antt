-- What is left to prove of `conclude_after`: what `conclude_after` requires, by `DerivLemmas`.
use Rattle.std.proofs.Common.{arith}
use Rattle.derivation.proofs.DerivLemmas.{same_nodes, step_nodes, pair_nodes}
use Rattle.derivation.proofs.concluding.+conclude_after.Goals as goal

pub conclude_after-requires : goal.conclude_after-requires
conclude_after-requires t c =
    let all = step_nodes c.in-Step.is in
    let premise = same_nodes c.deref.ensures in
    (omega (arith, all, premise), omega (arith, all, premise, c.requires.fits_u32))

pub conclude_after-requires-in-Pair : goal.conclude_after-requires-in-Pair
conclude_after-requires-in-Pair t c =
    let all = pair_nodes c.in-Pair.is in
    let premise = same_nodes c.deref-in-Pair.ensures in
    (omega (arith, all, premise), omega (arith, all, premise, c.requires.fits_u32))

pub conclude_after-requires-in-Pair-2 : goal.conclude_after-requires-in-Pair-2
conclude_after-requires-in-Pair-2 t c =
    let all = pair_nodes c.in-Pair.is in
    let premise = same_nodes c.deref-in-Pair-2.ensures in
    (omega (arith, all, premise), omega (arith, all, premise, same_nodes c.deref-in-Pair.ensures, c.requires.fits_u32, c.in_ok-left-in-Pair.ensures.passed))
