-- What is left to prove of `functional_closure_with`: its clause `closure`, by
-- `functionally_closed_holds` and `fd_each-to`.
use Rattle.std.proofs.Common.{arith}
use Rattle.std.proofs.lemmas.Bool.{ltb-true}
use Rattle.std.proofs.lemmas.Bool.Decides.{nat_tests}
use Rattle.attr_sets.specs.Attributes.{below, only}
use Rattle.attr_sets.specs.Sets.{attributes}
use Rattle.dep_model.specs.Dependencies.{functional_part}
use Rattle.dep_model.specs.Deps.{dependencies_of}
use Rattle.fd_closure.proofs.ClosureLemmas.{functionally_closed_holds, fd_each-to}
use Rattle.fd_closure.proofs.counting.functional_closure_with.Goals as goal

pub returns-clause-closure : goal.returns-clause-closure
returns-clause-closure c n within from_in a =
    let ds = c.args.deps.now in
    let x = attributes c.args.from in
    let closed = attributes c.close_from.result in
    let grows = c.close_from.ensures.grows in (
      (λ m. (ltb-true a n (grows.within (below n) within from_in a m), fd_each-to n (functional_part (dependencies_of ds)) x closed (grows.implied n) a m)),
      (λ implied. functionally_closed_holds n ds x (only a) closed within from_in (λ k m. grind (arith, nat_tests, m, implied.0)) c.close_from.ensures.functionally_closed grows.holds implied.1 a (grind (arith, nat_tests))),
    )
