-- What is left to prove of `functional_chain`: its clauses `found_where_implied`, `chain`,
-- `proves`, `node_bound` and one more, that the invariant of its loop holds at first and stays, and
-- that its loop ends.
use Rattle.std.proofs.Common.{◌≡◌, suc, refl, ◌∙◌, ap, inl, inr, arith}
use Rattle.std.proofs.lemmas.Bool.{false≢true}
use Rattle.attr_sets.specs.declared.set.TheConstants.{MOST_ATTRIBUTES}
use Rattle.attr_sets.specs.Attributes.{Attributes, union, IsSubset}
use Rattle.attr_sets.specs.Sets.{attributes}
use Rattle.attr_sets.proofs.AttributesLemmas.{attributes_below, tell_subset, count_below-lt, count_below-le, same_at}
use Rattle.dep_model.specs.Theories.{width_of, deps_of}
use Rattle.fd_closure.proofs.ClosureLemmas.{functionally_closed_holds}
use Rattle.derivation.specs.declared.deriv.Deriv.{Deriv}
use Rattle.derivation.specs.Trees.{Tree, leaf, step, pair, given, augmentation, transitivity}
use Rattle.derivation.specs.Derivs.{tree_of}
use Rattle.derivation.specs.Chains.{Stage, IsFunctionalChain}
use Rattle.derivation.proofs.ChainLemmas.{reached_grows, chain_obeyed, chain_proves, chain_small}
use Rattle.basis_proofs.proofs.chains.functional_chain.Goals as goal

pub loop-closed-init : goal.loop-closed-init
loop-closed-init c =
    let stage_of : Deriv → Stage = λ d. record { closed = attributes c.args.lhs; tree = tree_of d } in
    (0, ap stage_of c.in_ok-chain.ensures.ok)

pub returns-in_default-clause-found_where_implied : goal.returns-in_default-clause-found_where_implied
returns-in_default-clause-found_where_implied c =
    let s = c.args.theory.now in
    let x = attributes c.args.lhs in
    let y = attributes c.args.rhs in
    let closed = attributes c.loop-closed.closed in
    let stage : Stage = record { closed = closed; tree = tree_of c.loop-closed.chain.value } in
    let grows = reached_grows s x y c.loop-closed.invariant.0 stage c.loop-closed.invariant.1 in
    let is_closed = c.in_default.ensures.none refl in (
      (λ none. absurd (false≢true none)),
      (λ implied. absurd (false≢true (c.loop-closed-test.ensures.subset.1
          (functionally_closed_holds (width_of s) (deps_of s) x y closed s.valid.deps_within c.requires.lhs c.requires.rhs is_closed grows implied)))),
    )

pub loop-closed-smaller : goal.loop-closed-smaller
loop-closed-smaller c =
    let now = attributes c.loop-closed.closed in
    let more = attributes c.union-closed.result in
    let first = c.in-Some.ensures.first in
    elim (tell_subset MOST_ATTRIBUTES (attributes c.in-Some.lead.rhs) now (attributes_below c.in-Some.lead.rhs)) [
      | inl new ↦ omega (arith, count_below-lt MOST_ATTRIBUTES now more new.0 (λ k m. grind (arith, same_at c.union-closed.ensures.members k, m)) new.1 new.3 (grind (arith, same_at c.union-closed.ensures.members new.0, new.2)), count_below-le MOST_ATTRIBUTES more)
      | inr all ↦ absurd (first.out.beyond all)
    ]

pub loop-closed-preserved : goal.loop-closed-preserved
loop-closed-preserved c =
    let closed = attributes c.loop-closed.closed in
    let tree = tree_of c.loop-closed.chain.value in
    let k = c.in-Some.lead.number in
    let t = attributes c.in-Some.lead.rhs in
    let before : Stage = record { closed = closed; tree = tree } in
    let outside : IsSubset (attributes c.args.rhs) closed → ⊥ = λ inside. false≢true (c.loop-closed-test.ensures.subset.1 inside) in
    let grown : tree_of c.in_ok-chain-2.chain.value ≡ pair transitivity tree (step (augmentation closed) (leaf (given k))) =
    ap tree_of c.in_ok-chain-2.ensures.ok
    ∙ ap (λ (d : Deriv). pair transitivity tree (tree_of d)) c.in_ok-lifted.ensures.ok
    ∙ ap (λ (d : Deriv). pair transitivity tree (step (augmentation closed) (tree_of d))) c.in_ok-given.ensures.ok in
    let wider : attributes c.union-closed.result ≡ union closed t = c.union-closed.ensures.members in
    let with_set : Attributes → Stage = λ x. record { closed = x; tree = tree_of c.in_ok-chain-2.chain.value } in
    let with_tree : Tree → Stage = λ u. record { closed = union closed t; tree = u } in
    (suc c.loop-closed.invariant.0, (before, k, t, c.loop-closed.invariant.1, outside, c.in-Some.ensures.first, ap with_set wider ∙ ap with_tree grown))

-- the derivation returned is the chain
whole : (c : goal.In_ok-new) → IsFunctionalChain c.args.theory.now (attributes c.args.lhs) (attributes c.args.rhs) (tree_of c.in_ok-new.field-0.value)
whole c = record {
  steps = c.loop-closed.invariant.0;
  last = record { closed = attributes c.loop-closed.closed; tree = tree_of c.loop-closed.chain.value };
  reached = c.loop-closed.invariant.1;
  holds = c.loop-closed-test.ensures.subset.0 refl;
  whole = ap tree_of c.in_ok-new.ensures.ok ∙ ap (λ (d : Deriv). pair transitivity (tree_of c.loop-closed.chain.value) (tree_of d)) c.in_ok-last.ensures.ok;
}

pub returns-clause-found_where_implied : goal.returns-clause-found_where_implied
returns-clause-found_where_implied c = ((λ _. chain_obeyed c.args.theory.now (attributes c.args.lhs) (attributes c.args.rhs) (tree_of c.in_ok-new.field-0.value) (whole c)), (λ _. refl))

pub returns-clause-chain : goal.returns-clause-chain
returns-clause-chain c = whole c

pub returns-clause-proves : goal.returns-clause-proves
returns-clause-proves c = chain_proves c.args.theory.now (attributes c.args.lhs) (attributes c.args.rhs) (tree_of c.in_ok-new.field-0.value) c.requires.lhs (whole c)

pub returns-clause-node_bound : goal.returns-clause-node_bound
returns-clause-node_bound c = (chain_small c.args.theory.now (attributes c.args.lhs) (attributes c.args.rhs) (tree_of c.in_ok-new.field-0.value) (whole c)).0

pub returns-clause-level_bound : goal.returns-clause-level_bound
returns-clause-level_bound c = (chain_small c.args.theory.now (attributes c.args.lhs) (attributes c.args.rhs) (tree_of c.in_ok-new.field-0.value) (whole c)).1
