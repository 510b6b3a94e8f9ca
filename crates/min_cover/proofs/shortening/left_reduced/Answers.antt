-- What is left to prove of `left_reduced`: its clause `left_reduced`, since the test of `narrowed` says what determines the
-- right side.
use Rattle.std.proofs.Common.{rules}
use Rattle.attr_sets.specs.Sets.{attributes}
use Rattle.attr_sets.specs.declared.narrowing.Direction.TheVariants.{Ascending}
use Rattle.attr_sets.proofs.NarrowingLemmas.{narrowed-by}
use Rattle.dep_model.specs.Dependencies.{fd, functional_part}
use Rattle.dep_model.specs.Deps.{dependencies_of}
use Rattle.dep_model.specs.Implication.{Implies}
use Rattle.fd_closure.specs.Following.{SaysWhetherFollows}
use Rattle.min_cover.proofs.shortening.left_reduced.Goals as goal

pub returns : goal.returns
returns c = record {
  left_reduced = λ n within lhs_low rhs_low.
      let x = attributes c.args.lhs in
      let y = attributes c.args.rhs in
      narrowed-by Ascending _ (λ left. Implies n (functional_part (dependencies_of c.args.deps.now)) (fd left y)) x x (attributes c.narrowed.result)
      c.narrowed.ensures.narrowed
      (λ left fits inside says said.
      let decides : SaysWhetherFollows c.args.deps.now (attributes left) y says = search rules in
      decides.over n within (λ k m. lhs_low k (inside k m)) rhs_low);
}
