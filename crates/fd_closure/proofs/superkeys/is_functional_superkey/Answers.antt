-- What is left to prove of `is_functional_superkey`: its clause `superkey`.
use Rattle.std.specs.Prelude.{◌↔◌, IsTrue}
use Rattle.attr_sets.specs.Attributes.{below, IsSubset}
use Rattle.attr_sets.specs.Sets.{attributes}
use Rattle.dep_model.specs.Dependencies.{fd, functional_part}
use Rattle.dep_model.specs.Implication.{Implies}
use Rattle.dep_model.specs.Theories.{width_of, theory_of}
use Rattle.dep_model.proofs.KeyLemmas.{superkey-from, fd_on-to}
use Rattle.fd_closure.proofs.SchemaLemmas.{of_functional_part}
use Rattle.fd_closure.proofs.superkeys.is_functional_superkey.Goals as goal

pub returns : goal.returns
returns c =
    let s = c.args.theory.now in
    let n = width_of s in
    let ds = functional_part (theory_of s) in
    let x = attributes c.args.set in
    let scheme = attributes c.args.scheme in
    let decides : IsTrue c.follows.result ↔ Implies n ds (fd x scheme) =
    of_functional_part s c.deps.result.now c.deps.ensures.deps
    (λ m es. IsSubset x (below m) → IsSubset scheme (below m) → IsTrue c.follows.result ↔ Implies m es (fd x scheme))
    c.follows.ensures.implied.over (λ k m. c.requires.scheme k (c.requires.set k m)) c.requires.scheme in
    record {
      superkey = (
        λ fact. superkey-from n ds scheme x c.requires.set (decides.0 fact),
        λ is. decides.1 (fd_on-to n ds scheme x scheme is),
      );
    }
