-- What is left to prove of `is_superkey`: its clause `superkey`.
use Rattle.std.proofs.Common.{◌↔◌, true}
use Rattle.std.specs.Prelude.{IsTrue}
use Rattle.attr_sets.specs.Attributes.{below, IsSubset}
use Rattle.attr_sets.specs.Sets.{attributes}
use Rattle.dep_model.specs.Dependencies.{fd, functional_part}
use Rattle.dep_model.specs.Implication.{Implies}
use Rattle.dep_model.specs.Theories.{width_of, theory_of}
use Rattle.dep_model.proofs.KeyLemmas.{superkey-from, fd_on-to}
use Rattle.fd_closure.proofs.SchemaLemmas.{of_functional_part}
use Rattle.normal_forms.proofs.BeginLemmas.{implied_begun}
use Rattle.normal_forms.proofs.primes.is_superkey.Goals as goal

pub returns : goal.returns
returns c =
    let s = c.args.theory.now in
    let n = width_of s in
    let fs = functional_part (theory_of s) in
    let scheme = attributes c.args.scheme in
    let x = attributes c.args.set in
    let b = attributes c.begun.result in
    let begun = c.begun.ensures.begun true s c.requires.part (λ k m. c.requires.scheme k (c.requires.set k m)) in
    let by_begun = of_functional_part s c.deps.result.now c.deps.ensures.deps (λ m ds. IsSubset b (below m) → IsSubset scheme (below m) → IsTrue c.follows.result ↔ Implies m ds (fd b scheme))
    c.follows.ensures.implied.over begun.within c.requires.scheme in
    let same = implied_begun n fs x b scheme begun.holds begun.determined in
    let decides : IsTrue c.follows.result ↔ Implies n fs (fd x scheme) = ((λ e. same.0 (by_begun.0 e)), (λ h. by_begun.1 (same.1 h))) in
    record { superkey = ((λ e. superkey-from n fs scheme x c.requires.set (decides.0 e)), (λ superkey. decides.1 (fd_on-to n fs scheme x scheme superkey))) }
