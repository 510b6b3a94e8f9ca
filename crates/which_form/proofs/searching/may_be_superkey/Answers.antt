-- What is left to prove of `may_be_superkey`: its clause, by `by_closed`.
use Rattle.std.proofs.Common.{◌≡◌, sym, subst, ◌∙◌}
use Rattle.std.proofs.lemmas.Bool.{lt-ltb}
use Rattle.std.specs.Prelude.{◌↔◌, IsTrue}
use Rattle.attr_sets.specs.Attributes.{Attributes, below, union, IsSubset}
use Rattle.attr_sets.specs.Sets.{attributes}
use Rattle.attr_sets.proofs.AttributesLemmas.{same_at, union_within}
use Rattle.dep_model.specs.Dependencies.{fd}
use Rattle.dep_model.specs.Implication.{Implies}
use Rattle.dep_model.specs.Theories.{width_of}
use Rattle.fd_closure.proofs.SchemaLemmas.{of_functional_part}
use Rattle.which_form.specs.KeyRanges.{functional_of}
use Rattle.which_form.proofs.BetweenLemmas.{by_closed}
use Rattle.which_form.proofs.searching.may_be_superkey.Goals as goal

pub returns : goal.returns
returns c =
    let s = c.args.theory.now in
    let n = width_of s in
    let fs = functional_of s in
    let scheme = attributes c.args.scheme in
    let x = attributes c.args.part.of in
    let rest = attributes c.args.rest in
    let closed = attributes c.args.part.closed in
    let start = attributes c.union.result in
    let is : start ≡ union closed rest = c.union.ensures.members in
    let both_low = union_within n closed rest (λ a m. lt-ltb a n ((c.requires.closed a).0 m).0) (λ k m. c.requires.scheme k (c.requires.rest k m)) in
    let decides : IsTrue c.follows.result ↔ Implies n fs (fd start scheme) =
    of_functional_part s c.deps.result.now c.deps.ensures.deps
    (λ m es. IsSubset start (below m) → IsSubset scheme (below m) → IsTrue c.follows.result ↔ Implies m es (fd start scheme))
    c.follows.ensures.implied.over (λ k m. both_low k (sym (same_at is k) ∙ m)) c.requires.scheme in
    record {
      superkey = λ superkey. decides.1 (subst (λ (v : Attributes). Implies n fs (fd v scheme)) (sym is)
          (by_closed n fs scheme x rest closed (λ k m. c.requires.scheme k (c.requires.part k m)) c.requires.closed superkey));
    }
