-- What is left to prove of `seek`: what it answers in the cases `Leaf`, `Step` and `Pair` and what
-- `seek` and `seek_pair` require, by `nodes-pos` and `part-nodes`.
use Rattle.std.proofs.Common.{◌≡◌, ◌<◌, ap, sym, ◌∙◌, arith}
use Rattle.std.specs.Prelude.{◌^◌}
use Rattle.dep_model.specs.Theories.{Theory}
use Rattle.dep_model.specs.Dependencies.{Dependency}
use Rattle.dep_model.specs.Deps.{dependency_of}
use Rattle.derivation.specs.declared.shortening.Sought.{Sought}
use Rattle.derivation.specs.declared.shortening.Sought.TheVariants.{Found, Whole}
use Rattle.derivation.specs.Trees.{Tree, leaf, step, pair, nodes}
use Rattle.derivation.specs.Derivs.{tree_of, leaf_of, step_of, pair_of}
use Rattle.derivation.specs.Shortened.{IsSought, NodesFit}
use Rattle.derivation.proofs.TreeLemmas.{nodes-pos}
use Rattle.derivation.proofs.ShorteningLemmas.{part-nodes}
use Rattle.derivation.proofs.shortening.+seek.Goals as goal
use Rattle.derivation.proofs.shortening.+seek.Goals.{In-Step, In-Pair}

step_whole : (t : _) (c : In-Step t) → tree_of c.args.deriv.value ≡ step (step_of c.in-Step.rule) (tree_of c.in-Step.premise.value)
step_whole t c = ap tree_of (sym (c.replace.ensures.value ∙ c.deref_mut.ensures.value) ∙ c.in-Step.is)

pair_whole : (t : _) (c : In-Pair t) → tree_of c.args.deriv.value ≡ pair (pair_of c.in-Pair.rule) (tree_of c.in-Pair.first.value) (tree_of c.in-Pair.second.value)
pair_whole t c = ap tree_of (sym (c.replace.ensures.value ∙ c.deref_mut.ensures.value) ∙ c.in-Pair.is)

-- what is found in a tree is no larger
found_within_limit : (s : Theory) (t : Tree) (d : Dependency) (r : Sought) → nodes t < 2 ^ 32 → IsSought s t d r → NodesFit r
found_within_limit s t d (Found b) within_limit found = omega (arith, within_limit, part-nodes (tree_of b.value) t found.part)
found_within_limit s t d (Whole whole) within_limit found = let same : nodes (tree_of whole.deriv.value) ≡ nodes t = ap nodes found.0.same in omega (arith, within_limit, same)

pub seek-from-requires : goal.seek-from-requires
seek-from-requires t c = let all = ap nodes (step_whole t c) in (omega (arith, all), omega (arith, all, c.requires.fits_u32))

pub seek-left-requires : goal.seek-left-requires
seek-left-requires t c =
    let all = ap nodes (pair_whole t c) in
    (omega (arith, all, nodes-pos (tree_of c.in-Pair.second.value)), omega (arith, all, c.requires.fits_u32))

pub seek-right-requires : goal.seek-right-requires
seek-right-requires t c =
    let all = ap nodes (pair_whole t ((goal.at.seek-right-requires t c).In-Pair)) in
    (omega (arith, all, nodes-pos (tree_of c.in-Pair.first.value)), omega (arith, all, c.requires.fits_u32))

pub seek_pair-requires-clause-left_fits_u32 : goal.seek_pair-requires-clause-left_fits_u32
seek_pair-requires-clause-left_fits_u32 t c =
    let all = ap nodes (pair_whole t ((goal.at.seek_pair-requires-clause-left_fits_u32 t c).In-Pair)) in
    found_within_limit c.args.theory.now (tree_of c.in-Pair.first.value) (dependency_of c.args.sought) c.seek-left.result (omega (arith, all, c.requires.fits_u32)) c.seek-left.ensures.sought

pub seek_pair-requires-clause-right_fits_u32 : goal.seek_pair-requires-clause-right_fits_u32
seek_pair-requires-clause-right_fits_u32 t c =
    let all = ap nodes (pair_whole t ((goal.at.seek_pair-requires-clause-right_fits_u32 t c).In-Pair)) in
    found_within_limit c.args.theory.now (tree_of c.in-Pair.second.value) (dependency_of c.args.sought) c.seek-right.result (omega (arith, all, c.requires.fits_u32)) c.seek-right.ensures.sought

pub returns-in-Leaf : goal.returns-in-Leaf
returns-in-Leaf t c =
    let whole = ap tree_of (sym (c.replace.ensures.value ∙ c.deref_mut.ensures.value) ∙ c.in-Leaf.is) in
    record {
      sought = rw whole (c.seek_root.ensures.sought c.args.theory.now (leaf (leaf_of c.in-Leaf.rule)) c.conclude_leaf.ensures.concluded (λ u below proves. below));
    }

pub returns-in-Step : goal.returns-in-Step
returns-in-Step t c = record {
  sought = rw (step_whole t ((goal.at.returns-in-Step t c).In-Step)) (c.seek_step.ensures.sought (tree_of c.in-Step.premise.value) c.seek-from.ensures.sought);
}

pub returns-in-Pair : goal.returns-in-Pair
returns-in-Pair t c = record {
  sought = rw (pair_whole t ((goal.at.returns-in-Pair t c).In-Pair))
      (c.seek_pair.ensures.sought c.args.theory.now (tree_of c.in-Pair.first.value) (tree_of c.in-Pair.second.value) c.seek-left.ensures.sought c.seek-right.ensures.sought);
}
