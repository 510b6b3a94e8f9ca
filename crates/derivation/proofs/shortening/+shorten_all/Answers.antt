-- What is left to prove of `shorten_all`: what it answers in the cases `Step` and `Pair` and what
-- `shorten_all` requires, by `ShorteningLemmas` and `TreeLemmas`.
use Rattle.std.proofs.Common.{◌≡◌, ap, sym, ◌∙◌, arith}
use Rattle.derivation.specs.Trees.{step, pair, nodes}
use Rattle.derivation.specs.Derivs.{tree_of, step_of, pair_of}
use Rattle.derivation.proofs.TreeLemmas.{nodes-pos}
use Rattle.derivation.proofs.ShorteningLemmas.{as_concluded, shortened_step, shortened_pair}
use Rattle.derivation.proofs.shortening.+shorten_all.Goals as goal
use Rattle.derivation.proofs.shortening.+shorten_all.Goals.{In-Step, In-Pair}

step_whole : (t : _) (c : In-Step t) → tree_of c.args.deriv.value ≡ step (step_of c.in-Step.rule) (tree_of c.in-Step.premise.value)
step_whole t c = ap tree_of (sym (c.replace.ensures.value ∙ c.deref_mut.ensures.value) ∙ c.in-Step.is)

pair_whole : (t : _) (c : In-Pair t) → tree_of c.args.deriv.value ≡ pair (pair_of c.in-Pair.rule) (tree_of c.in-Pair.first.value) (tree_of c.in-Pair.second.value)
pair_whole t c = ap tree_of (sym (c.replace.ensures.value ∙ c.deref_mut.ensures.value) ∙ c.in-Pair.is)

pub shorten_all-from-requires : goal.shorten_all-from-requires
shorten_all-from-requires t c = let all = ap nodes (step_whole t c) in (omega (arith, all), omega (arith, all, c.requires.fits_u32))

pub shorten_all-left-requires : goal.shorten_all-left-requires
shorten_all-left-requires t c =
    let all = ap nodes (pair_whole t c) in
    (omega (arith, all, nodes-pos (tree_of c.in-Pair.second.value)), omega (arith, all, c.requires.fits_u32))

pub shorten_all-right-requires : goal.shorten_all-right-requires
shorten_all-right-requires t c =
    let all = ap nodes (pair_whole t ((goal.at.shorten_all-right-requires t c).In-Pair)) in
    (omega (arith, all, nodes-pos (tree_of c.in-Pair.first.value)), omega (arith, all, c.requires.fits_u32))

pub least_of-requires-in-Pair : goal.least_of-requires-in-Pair
least_of-requires-in-Pair t c =
    let s = c.args.theory.now in
    let first = c.shorten_all-left in
    let second = c.shorten_all-right in
    let all = ap nodes (pair_whole t ((goal.at.least_of-requires-in-Pair t c).In-Pair)) in
    let made = c.conclude_pair.ensures.concluded s (tree_of first.result.deriv.value) (tree_of second.result.deriv.value)
    (as_concluded s (tree_of c.in-Pair.first.value) first.result first.ensures.shortened) (as_concluded s (tree_of c.in-Pair.second.value) second.result second.ensures.shortened) in
    record { fits_u32 = omega (arith, all, ap nodes made.same, first.ensures.shortened.node_bound, second.ensures.shortened.node_bound, c.requires.fits_u32) }

pub returns-in-Step : goal.returns-in-Step
returns-in-Step t c =
    let s = c.args.theory.now in
    let from = c.shorten_all-from in
    let made = c.conclude_step.ensures.concluded (tree_of from.result.deriv.value) (as_concluded s (tree_of c.in-Step.premise.value) from.result from.ensures.shortened) in
    record {
      shortened = shortened_step s (step_of c.in-Step.rule) (tree_of c.args.deriv.value) (tree_of c.in-Step.premise.value) from.result c.least_of.result
          (step_whole t ((goal.at.returns-in-Step t c).In-Step)) from.ensures.shortened (c.least_of.ensures.least (step (step_of c.in-Step.rule) (tree_of from.result.deriv.value)) made);
    }

pub returns-in-Pair : goal.returns-in-Pair
returns-in-Pair t c =
    let s = c.args.theory.now in
    let rule = pair_of c.in-Pair.rule in
    let first = c.shorten_all-left in
    let second = c.shorten_all-right in
    let made = c.conclude_pair.ensures.concluded s (tree_of first.result.deriv.value) (tree_of second.result.deriv.value)
    (as_concluded s (tree_of c.in-Pair.first.value) first.result first.ensures.shortened) (as_concluded s (tree_of c.in-Pair.second.value) second.result second.ensures.shortened) in
    record {
      shortened = shortened_pair s rule (tree_of c.args.deriv.value) (tree_of c.in-Pair.first.value) (tree_of c.in-Pair.second.value) first.result second.result c.least_of-in-Pair.result
          (pair_whole t ((goal.at.returns-in-Pair t c).In-Pair)) first.ensures.shortened second.ensures.shortened
          (c.least_of-in-Pair.ensures.least (pair rule (tree_of first.result.deriv.value) (tree_of second.result.deriv.value)) made);
    }
