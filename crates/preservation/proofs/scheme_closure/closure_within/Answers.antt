-- What is left to prove of `closure_within`: its clause `known`, by `closure_over`.
use Rattle.std.proofs.Common.{◌≡◌, ℕ, ◌↔◌, true, arith}
use Rattle.attr_sets.specs.Sets.{attributes}
use Rattle.dep_model.specs.Dependencies.{functional_part}
use Rattle.dep_model.specs.Keys.{InClosure}
use Rattle.dep_model.specs.Theories.{width_of, theory_of}
use Rattle.attr_sets.proofs.AttributesLemmas.{same_at}
use Rattle.preservation.proofs.KnownLemmas.{closure_over}
use Rattle.preservation.proofs.scheme_closure.closure_within.Goals as goal

pub returns-clause-known : goal.returns-clause-known
returns-clause-known c =
    let s = c.args.theory.now in
    let part = attributes c.args.part in
    let all = attributes c.functional_closure_with.result in
    let exact : (a : ℕ) → (all a ≡ true) ↔ InClosure (width_of s) (functional_part (theory_of s)) part a =
    closure_over s c.deps.result.now part all c.deps.ensures.deps
    (λ k m. c.requires.scheme k (c.requires.part k m)) c.functional_closure_with.ensures.closure in
    record {
      universe = c.requires.scheme;
      within = c.requires.part;
      closure = λ a. (
        (λ m. (
          grind (arith, same_at c.intersection-closed.ensures.members a, m),
          (exact a).0 (grind (arith, same_at c.intersection-closed.ensures.members a, m)),
        )),
        (λ is. grind (arith, same_at c.intersection-closed.ensures.members a, is.0, (exact a).1 is.1)),
      );
    }
