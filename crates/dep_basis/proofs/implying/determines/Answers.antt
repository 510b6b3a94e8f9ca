-- What is left to prove of `determines`: its clause `implied`, where all are functional and where not.
use Rattle.std.proofs.Common.{◌↔◌, List, subst}
use Rattle.std.proofs.lemmas.Bool.{ltb-true}
use Rattle.std.specs.Prelude.{IsTrue}
use Rattle.attr_sets.specs.Sets.{attributes}
use Rattle.dep_model.specs.Dependencies.{Dependency, fd}
use Rattle.dep_model.specs.Deps.{dependencies_of}
use Rattle.dep_model.specs.Implication.{Implies}
use Rattle.fd_closure.proofs.ClosureLemmas.{fd_each-to, fd_each-from}
use Rattle.dep_basis.proofs.implying.determines.Goals as goal

pub returns-then-is_functional : goal.returns-then-is_functional
returns-then-is_functional c =
    let n = c.args.width in
    let x = attributes c.args.lhs in
    let y = attributes c.args.rhs in
    record {
      implied = subst (λ (ds : List Dependency). IsTrue c.follows.result ↔ Implies n ds (fd x y))
          (c.is_functional.ensures.functional.0 c.if-is_functional.true)
          (c.follows.ensures.implied.over n c.requires.deps c.requires.lhs c.requires.rhs);
    }

pub returns : goal.returns
returns c =
    let n = c.args.width in
    let ds = dependencies_of c.args.deps.now in
    let x = attributes c.args.lhs in
    let y = attributes c.args.rhs in
    let all = c.closure_by.ensures.closure in
    record {
      implied = (
        (λ h. fd_each-from n ds x y (λ a member. ((all a).0 (c.is_subset.ensures.subset.0 h a member)).1)),
        (λ implied. c.is_subset.ensures.subset.1
            (λ a member. (all a).1 (ltb-true a n (c.requires.rhs a member), fd_each-to n ds x y implied a member))),
      );
    }
