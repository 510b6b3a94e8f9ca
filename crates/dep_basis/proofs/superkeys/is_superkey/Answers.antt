-- What is left to prove of `is_superkey`: its clause `superkey`, and what `is_implied_by_blocks`
-- requires.
use Rattle.attr_sets.specs.Sets.{attributes}
use Rattle.dep_model.specs.Theories.{width_of, theory_of}
use Rattle.dep_model.proofs.KeyLemmas.{superkey-from, fd_on-to}
use Rattle.dep_basis.proofs.superkeys.is_superkey.Goals as goal

pub is_implied_by_blocks-requires-clause-deps : goal.is_implied_by_blocks-requires-clause-deps
is_implied_by_blocks-requires-clause-deps c = rw (c.deps.ensures.deps, c.width.ensures.count) c.args.theory.now.valid.deps_within

pub is_implied_by_blocks-requires-clause-within : goal.is_implied_by_blocks-requires-clause-within
is_implied_by_blocks-requires-clause-within c =
    rw c.width.ensures.count ((λ k m. c.requires.scheme k (c.requires.set k m)), c.requires.scheme)

pub returns : goal.returns
returns c =
    let n = width_of c.args.theory.now in
    let ds = theory_of c.args.theory.now in
    let scheme = attributes c.args.scheme in
    let set = attributes c.args.set in
    let implied = rw (c.deps.ensures.deps, c.width.ensures.count) at c.is_implied_by_blocks.ensures.implied in
    record {
      superkey = (
        (λ true. superkey-from n ds scheme set c.requires.set (implied.0 true)),
        (λ superkey. implied.1 (fd_on-to n ds scheme set scheme superkey)),
      );
    }
