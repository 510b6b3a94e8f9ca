-- What is left to prove of `unless_chain`: what is kept is no longer than the chain and a step, since there is one
-- chain at most.
use Rattle.std.proofs.Common.{◌≡◌, ◌+◌, ap, arith}
use Rattle.std.proofs.lemmas.Bool.{false≢true}
use Rattle.attr_sets.specs.Sets.{attributes}
use Rattle.derivation.specs.declared.deriv.Deriv.{Deriv}
use Rattle.derivation.specs.Trees.{nodes}
use Rattle.derivation.specs.Derivs.{tree_of}
use Rattle.derivation.specs.Chains.{IsFunctionalChain}
use Rattle.derivation.proofs.ChainLemmas.{chain_one, chain_obeyed}
use Rattle.short_proofs.proofs.proving.unless_chain.Goals as goal

pub returns-in-None-clause-chains : goal.returns-in-None-clause-chains
returns-in-None-clause-chains c = λ t chain.
    let some = c.in_ok-functional_chain.ensures.found_where_implied.1 (chain_obeyed c.args.theory.now (attributes c.args.lhs) (attributes c.args.rhs) t chain) in
    absurd (false≢true (rw c.in-None.is at some))

pub returns-in_ok-other-in-Some-clause-chains : goal.returns-in_ok-other-in-Some-clause-chains
returns-in_ok-other-in-Some-clause-chains c = λ t chain.
    let found : IsFunctionalChain c.args.theory.now (attributes c.args.lhs) (attributes c.args.rhs) (tree_of c.in-Some.chain.value) = (rw c.in-Some.is at c.in_ok-functional_chain.ensures.chain) in
    let same : nodes (tree_of c.in-Some.chain.value) ≡ nodes t = ap nodes (chain_one c.args.theory.now (attributes c.args.lhs) (attributes c.args.rhs) (tree_of c.in-Some.chain.value) t found chain) in
    let one : nodes (tree_of c.in_ok-other-in-Some.other.value) ≡ nodes (tree_of c.in-Some.chain.value) + 1 = ap (λ (d : Deriv). nodes (tree_of d)) c.in_ok-other-in-Some.ensures.ok in
    let short = c.shorter.ensures.than_other in
    omega (arith, same, one, short)
