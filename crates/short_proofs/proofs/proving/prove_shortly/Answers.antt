-- What is left to prove of `prove_shortly`: its clauses on what `prove` gave, of what was kept.
use Rattle.std.proofs.Common.{sym, subst}
use Rattle.attr_sets.specs.Sets.{attributes}
use Rattle.dep_model.specs.declared.dep.Dep.{Dep}
use Rattle.dep_model.specs.Dependencies.{fd, mvd}
use Rattle.dep_model.specs.Deps.{dependency_of}
use Rattle.derivation.specs.Derivs.{tree_of}
use Rattle.derivation.specs.Chains.{IsFunctionalChain}
use Rattle.basis_proofs.specs.declared.proving.Proof.{Proof}
use Rattle.basis_proofs.specs.JoinedProofs.{IsProofOf}
use Rattle.basis_proofs.specs.Proofs.{IsAnswer, IsDirectAnswer, IsDirectUnlessChain, IsChainIfFunctional}
use Rattle.short_proofs.specs.Short.{IsShort}
use Rattle.short_proofs.proofs.KeptLemmas.{kept_direct, kept_direct_fd, kept_proof}
use Rattle.short_proofs.proofs.proving.prove_shortly.Goals as goal

pub returns-in_ok-shortest-in-Yes-Mvd-clause-direct : goal.returns-in_ok-shortest-in-Yes-Mvd-clause-direct
returns-in_ok-shortest-in-Yes-Mvd-clause-direct c =
    let s = c.args.theory.now in
    let x = attributes c.in-Yes-Mvd.lhs in
    let y = attributes c.in-Yes-Mvd.rhs in
    let t = tree_of c.in-Yes-Mvd.deriv.value in
    let u = tree_of c.in_ok-shortest-in-Yes-Mvd.field-0.value in
    let before : IsDirectUnlessChain s (dependency_of c.args.dep) t = subst (λ (p : Proof). IsDirectAnswer s (dependency_of c.args.dep) p) c.in-Yes-Mvd.is-0 c.in_ok-proof.ensures.direct in
    let direct : IsDirectUnlessChain s (mvd x y) t = subst (λ (e : Dep). IsDirectUnlessChain s (dependency_of e) t) c.in-Yes-Mvd.is-1 before in
    subst (λ (e : Dep). IsDirectUnlessChain s (dependency_of e) u) (sym c.in-Yes-Mvd.is-1)
    (kept_direct s x y t u c.in_ok-shortest-in-Yes-Mvd.ensures.kept direct)

pub returns-in_ok-shortest_fd-in-Yes-Fd-clause-direct : goal.returns-in_ok-shortest_fd-in-Yes-Fd-clause-direct
returns-in_ok-shortest_fd-in-Yes-Fd-clause-direct c =
    let s = c.args.theory.now in
    let x = attributes c.in-Yes-Fd.lhs in
    let y = attributes c.in-Yes-Fd.rhs in
    let t = tree_of c.in-Yes-Fd.deriv.value in
    let u = tree_of c.in_ok-shortest_fd-in-Yes-Fd.field-0.value in
    let before : IsDirectUnlessChain s (dependency_of c.args.dep) t = subst (λ (p : Proof). IsDirectAnswer s (dependency_of c.args.dep) p) c.in-Yes-Fd.is-0 c.in_ok-proof.ensures.direct in
    let direct : IsDirectUnlessChain s (fd x y) t = subst (λ (e : Dep). IsDirectUnlessChain s (dependency_of e) t) c.in-Yes-Fd.is-1 before in
    subst (λ (e : Dep). IsDirectUnlessChain s (dependency_of e) u) (sym c.in-Yes-Fd.is-1)
    (kept_direct_fd s x y t u c.in_ok-shortest_fd-in-Yes-Fd.ensures.kept direct)

pub returns-in_ok-shortest_fd-in-Yes-Fd-clause-answer : goal.returns-in_ok-shortest_fd-in-Yes-Fd-clause-answer
returns-in_ok-shortest_fd-in-Yes-Fd-clause-answer c =
    let s = c.args.theory.now in
    let d = fd (attributes c.in-Yes-Fd.lhs) (attributes c.in-Yes-Fd.rhs) in
    let t = tree_of c.in-Yes-Fd.deriv.value in
    let u = tree_of c.in_ok-shortest_fd-in-Yes-Fd.field-0.value in
    let before : IsProofOf s (dependency_of c.args.dep) t × IsChainIfFunctional s (dependency_of c.args.dep) t = subst (λ (p : Proof). IsAnswer s (dependency_of c.args.dep) p) c.in-Yes-Fd.is-0 c.in_ok-proof.ensures.answer in
    let told : IsProofOf s d t × IsChainIfFunctional s d t = subst (λ (e : Dep). IsProofOf s (dependency_of e) t × IsChainIfFunctional s (dependency_of e) t) c.in-Yes-Fd.is-1 before in
    let chain : IsChainIfFunctional s d u = λ functional.
    subst (IsFunctionalChain s (attributes c.in-Yes-Fd.lhs) (attributes c.in-Yes-Fd.rhs)) (sym (c.in_ok-shortest_fd-in-Yes-Fd.ensures.chain functional)) (told.1 functional) in
    subst (λ (e : Dep). IsProofOf s (dependency_of e) u × IsChainIfFunctional s (dependency_of e) u) (sym c.in-Yes-Fd.is-1)
    (kept_proof s d t u told.0 c.in_ok-shortest_fd-in-Yes-Fd.ensures.kept, chain)

pub returns-in_ok-shortest-in-Yes-Mvd-clause-short : goal.returns-in_ok-shortest-in-Yes-Mvd-clause-short
returns-in_ok-shortest-in-Yes-Mvd-clause-short c =
    subst (λ (e : Dep). IsShort c.args.theory.now (dependency_of e) (tree_of c.in_ok-shortest-in-Yes-Mvd.field-0.value)) (sym c.in-Yes-Mvd.is-1) c.in_ok-shortest-in-Yes-Mvd.ensures.short

pub returns-in_ok-shortest_fd-in-Yes-Fd-clause-short : goal.returns-in_ok-shortest_fd-in-Yes-Fd-clause-short
returns-in_ok-shortest_fd-in-Yes-Fd-clause-short c =
    subst (λ (e : Dep). IsShort c.args.theory.now (dependency_of e) (tree_of c.in_ok-shortest_fd-in-Yes-Fd.field-0.value)) (sym c.in-Yes-Fd.is-1) c.in_ok-shortest_fd-in-Yes-Fd.ensures.short
