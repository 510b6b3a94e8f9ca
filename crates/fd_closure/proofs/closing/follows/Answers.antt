-- What is left to prove of `follows`: its clause `implied`, by `functionally_closed_holds`.
use Rattle.std.proofs.Common.{⊎_elim}
use Rattle.attr_sets.specs.Sets.{attributes}
use Rattle.dep_model.proofs.RuleLemmas.{fd_weaker_obeyed}
use Rattle.fd_closure.proofs.ClosureLemmas.{functionally_closed_holds}
use Rattle.fd_closure.proofs.closing.follows.Goals as goal

pub returns : goal.returns
returns c =
    let x = attributes c.args.lhs in
    let y = attributes c.args.rhs in
    let found = attributes c.closed_until.result in
    let grows = c.closed_until.ensures.grows in
    record {
      implied = record {
        over = λ n within lhs_in rhs_in. (
          (λ holds r legal. fd_weaker_obeyed x found x y r (λ k m. m) (c.is_subset.ensures.subset.0 holds) (grows.implied n r legal)),
          (λ implied. ⊎_elim
              (λ inside. c.is_subset.ensures.subset.1 inside)
              (λ is_closed. c.is_subset.ensures.subset.1 (functionally_closed_holds n c.args.deps.now x y found within lhs_in rhs_in is_closed grows.holds implied))
              c.closed_until.ensures.found),
        );
      };
    }
