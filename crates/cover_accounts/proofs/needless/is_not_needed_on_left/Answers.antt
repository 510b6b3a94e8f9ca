-- What is left to prove of `is_not_needed_on_left`: what it answers of an attribute of a left side.
use Rattle.std.proofs.Common.{◌↔◌, List, sym, ap, subst, ◌∙◌, arith}
use Rattle.std.specs.Prelude.{All, IsTrue}
use Rattle.attr_sets.specs.Attributes.{Attributes, only, difference, IsSubset}
use Rattle.attr_sets.specs.Sets.{attributes}
use Rattle.dep_model.specs.declared.dep.Dep.{Dep}
use Rattle.dep_model.specs.Dependencies.{fd, functional_part}
use Rattle.dep_model.specs.Deps.{dependencies_of, IsDepWithin}
use Rattle.dep_model.specs.Implication.{Implies}
use Rattle.dep_model.specs.Theories.{width_of, universe_of, theory_of}
use Rattle.cover_accounts.proofs.needless.is_not_needed_on_left.Goals as goal

pub returns-then-contains : goal.returns-then-contains
returns-then-contains c =
    let s = c.args.theory.now in
    let n = width_of s in
    let x = attributes c.in-Fd.lhs in
    let y = attributes c.in-Fd.rhs in
    let rest = difference x (only c.args.attribute) in
    let within = rw c.in-Fd.is at c.requires.within in
    let low : IsSubset (attributes c.without.result) (universe_of s) = λ k m. within.0 k (grind (arith, m, ap (λ (z : Attributes). z k) c.without.ensures.members)) in
    let deps = c.deps.result.now in
    let all = subst (λ (ds : List Dep). All (IsDepWithin (universe_of s)) ds) (sym c.deps.ensures.deps) s.valid.deps_within in
    let told = c.follows.ensures.implied.over n all low within.1 in
    let by_rest = subst (λ (z : Attributes). IsTrue c.follows.result ↔ Implies n (functional_part (dependencies_of deps)) (fd z y)) c.without.ensures.members told in
    let follows : IsTrue c.follows.result ↔ Implies n (functional_part (theory_of s)) (fd rest y) =
    subst (λ (ds : List Dep). IsTrue c.follows.result ↔ Implies n (functional_part (dependencies_of ds)) (fd rest y)) c.deps.ensures.deps by_rest in
    rw c.in-Fd.is (record {
      not_needed = (
        (λ is. (sym c.contains.ensures.member ∙ c.if-contains.true, follows.0 is)),
        (λ is. follows.1 is.1),
      );
    })
