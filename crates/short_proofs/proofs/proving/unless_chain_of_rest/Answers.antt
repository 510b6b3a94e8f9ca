-- What is left to prove of `unless_chain_of_rest`: what is kept proves the same, and is no longer than the chain and
-- these steps, since there is one chain at most.
use Rattle.std.proofs.Common.{◌≡◌, ◌≤◌, Bool, true, false, sym, ap, subst, ◌∙◌, arith}
use Rattle.std.proofs.lemmas.Bool.{false≢true, false_from_ne_true}
use Rattle.attr_sets.specs.Attributes.{Attributes, below, union, difference}
use Rattle.attr_sets.specs.Sets.{attributes}
use Rattle.dep_model.specs.Dependencies.{fd, mvd}
use Rattle.dep_model.specs.Theories.{universe_of}
use Rattle.derivation.specs.Trees.{Tree, nodes, depth}
use Rattle.derivation.specs.Derivs.{tree_of}
use Rattle.derivation.specs.Conclusions.{Proves}
use Rattle.derivation.specs.Chains.{IsFunctionalChain}
use Rattle.derivation.proofs.ChainLemmas.{chain_one, chain_obeyed}
use Rattle.short_proofs.specs.Short.{rest_of}
use Rattle.short_proofs.specs.Shapes.{count}
use Rattle.short_proofs.proofs.RestLemmas.{rest_proves, rest_shared, rest_nodes, rest_depth}
use Rattle.short_proofs.proofs.ShapeLemmas.{count-le}
use Rattle.short_proofs.proofs.proving.unless_chain_of_rest.Goals as goal
use Rattle.short_proofs.proofs.proving.unless_chain_of_rest.Goals.{After-difference-rest}

-- the rest is what is in neither side
rest_is : (c : After-difference-rest) → attributes c.difference-rest.result ≡ difference (universe_of c.args.theory.now) (union (attributes c.args.lhs) (attributes c.args.rhs))
rest_is c =
    let s = c.args.theory.now in
    c.difference-rest.ensures.members
    ∙ ap (λ (p : Attributes). difference p (attributes c.union.result)) (c.full.ensures.members ∙ ap below c.width.ensures.count)
    ∙ ap (λ (p : Attributes). difference (universe_of s) p) c.union.ensures.members

pub returns-in-None-clause-chains : goal.returns-in-None-clause-chains
returns-in-None-clause-chains c = λ t shared chain proves.
    let s = c.args.theory.now in
    let rest = rest_is (goal.at.returns-in-None-clause-chains c).After-difference-rest in
    let own : IsFunctionalChain s (attributes c.args.lhs) (attributes c.difference-rest.result) t = subst (λ (z : Attributes). IsFunctionalChain s (attributes c.args.lhs) z t) (sym rest) chain in
    let some = c.in_ok-functional_chain.ensures.found_where_implied.1 (chain_obeyed s (attributes c.args.lhs) (attributes c.difference-rest.result) t own) in
    absurd (false≢true (rw c.in-None.is at some))

pub returns-in_ok-other-in-Some-clause-kept : goal.returns-in_ok-other-in-Some-clause-kept
returns-in_ok-other-in-Some-clause-kept c =
    let s = c.args.theory.now in
    let x = attributes c.args.lhs in
    let y = attributes c.args.rhs in
    let rest = attributes c.difference-rest.result in
    let is = rest_is (goal.at.returns-in_ok-other-in-Some-clause-kept c).After-difference-rest in
    let chain = tree_of c.in-Some.chain.value in
    let shown : Proves s chain (fd x rest) = (rw c.in-Some.is at c.in_ok-functional_chain.ensures.proves) in
    c.shorter.ensures.kept (mvd x y)
    (subst (λ (t : Tree). Proves s t (mvd x y)) (sym c.in_ok-other-in-Some.ensures.tree)
    (rest_proves s x y rest chain c.intersects.result c.requires.lhs c.requires.rhs is
    (λ no k m. false_from_ne_true (y k) (λ n. false≢true (sym no ∙ c.intersects.ensures.intersects.1 (k, m, n)))) shown))

-- nothing is added where a tree without it proves the goal
by_shared : (Q : Bool → Type 0) → Q true → Q false → (b : Bool) → Q b
by_shared Q first second true = first
by_shared Q first second false = second

pub returns-in_ok-other-in-Some-clause-chains : goal.returns-in_ok-other-in-Some-clause-chains
returns-in_ok-other-in-Some-clause-chains c = λ t shared chain proves.
    let s = c.args.theory.now in
    let x = attributes c.args.lhs in
    let y = attributes c.args.rhs in
    let rest = attributes c.difference-rest.result in
    let is = rest_is (goal.at.returns-in_ok-other-in-Some-clause-chains c).After-difference-rest in
    let own : IsFunctionalChain s x rest t = subst (λ (z : Attributes). IsFunctionalChain s x z t) (sym is) chain in
    let found : IsFunctionalChain s x rest (tree_of c.in-Some.chain.value) = (rw c.in-Some.is at c.in_ok-functional_chain.ensures.chain) in
    let shown : Proves s (tree_of c.in-Some.chain.value) (fd x rest) = (rw c.in-Some.is at c.in_ok-functional_chain.ensures.proves) in
    let same_tree = chain_one s x rest (tree_of c.in-Some.chain.value) t found own in
    let same : nodes (tree_of c.in-Some.chain.value) ≡ nodes t = ap nodes same_tree in
    let there : Proves s t (fd x rest) = subst (λ (u : Tree). Proves s u (fd x rest)) same_tree shown in
    let made = ap nodes c.in_ok-other-in-Some.ensures.tree ∙ rest_nodes x y c.intersects.result (tree_of c.in-Some.chain.value) in
    let short = c.shorter.ensures.than_other in
    let most = count-le c.intersects.result in
    let result = nodes (tree_of c.shorter.result.value) in
    by_shared (λ (b : Bool). Proves s (rest_of x y b t) (mvd x y) → result ≤ nodes (rest_of x y b t))
    (λ with_it. let listed = rest_nodes x y true t in omega (arith, same, made, short, most, listed))
    (λ without.
    let no : c.intersects.result ≡ false = false_from_ne_true c.intersects.result (λ yes_it. rest_shared s x y rest t there without (c.intersects.ensures.intersects.0 yes_it)) in
    let nothing : count c.intersects.result ≡ 0 = ap count no in
    let listed = rest_nodes x y false t in
    omega (arith, same, made, short, nothing, listed))
    shared proves

pub shorter-requires-clause-small : goal.shorter-requires-clause-small
shorter-requires-clause-small c =
    let x = attributes c.args.lhs in
    let y = attributes c.args.rhs in
    let chain = tree_of c.in-Some.chain.value in
    let few = (rw c.in-Some.is at c.in_ok-functional_chain.ensures.node_bound) in
    let low = (rw c.in-Some.is at c.in_ok-functional_chain.ensures.level_bound) in
    let made = ap nodes c.in_ok-other-in-Some.ensures.tree ∙ rest_nodes x y c.intersects.result chain in
    let most = count-le c.intersects.result in
    let levels = rest_depth x y c.intersects.result chain in
    let deep = ap depth c.in_ok-other-in-Some.ensures.tree in
    record { node_bound = omega (arith, few, made, most); level_bound = omega (arith, low, levels, deep) }
