-- What is left to prove of `with_right_sides`: its clauses `grows`, `within`, `implied` and
-- `functionally_closed` and that the invariant of its loop holds at first and stays, by
-- `all_IfFd-kept`.
use Rattle.std.proofs.Common.{◌<◌, length, get_or, arith, take, take_all}
use Rattle.std.proofs.lemmas.List.Elements.{All-more}
use Rattle.attr_sets.specs.Attributes.{IsSubset}
use Rattle.attr_sets.specs.Sets.{attributes}
use Rattle.dep_model.specs.declared.dep.Dep.{Dep}
use Rattle.dep_model.specs.declared.dep.Dep.TheVariants.{Fd}
use Rattle.dep_model.specs.Dependencies.{Dependency, left_of, right_of}
use Rattle.dep_model.specs.Deps.{IfFd}
use Rattle.dep_model.proofs.DepLemmas.{functional_all-from, functional_legal-to}
use Rattle.dep_model.proofs.RuleLemmas.{transitivity_obeyed, reflexivity_obeyed}
use Rattle.fd_closure.proofs.ClosureLemmas.{IfFd-kept, all_IfFd-kept}
use Rattle.fd_closure.proofs.closing.with_right_sides.Goals as goal

pub loop-dep-init : goal.loop-dep-init
loop-dep-init c = record {
  grows = λ k m. m;
  within = λ universe d_in now_in. now_in;
  implied = λ n r legal. reflexivity_obeyed (attributes c.args.closed) (attributes c.args.closed) r (λ k m. m);
  closed_so_far = λ k d l. absurd (omega arith);
}

pub loop-dep-preserved : goal.loop-dep-preserved
loop-dep-preserved c =
    let i = c.loop-dep.dep-index in
    let before = c.loop-dep.invariant in
    let more = c.with_right_side-more in
    let first : Dep = Fd (record { 0 = 0 }) (record { 0 = 0 }) in
    let lt : i < length c.args.deps.now = c.loop-dep-test.true in
    record {
      grows = λ k m. more.ensures.grows k (before.grows k m);
      within = λ universe d_in now_in. more.ensures.within universe (d_in i _ lt) (before.within universe d_in now_in);
      implied = λ n r legal. transitivity_obeyed (attributes c.args.closed) (attributes c.loop-dep.more) (attributes more.result) r (before.implied n r legal)
          (more.ensures.implied r (functional_legal-to n c.args.deps.now r legal i _ lt));
      closed_so_far = All-more (IfFd (λ x y. IsSubset x (attributes c.args.closed) → IsSubset y (attributes more.result))) c.args.deps.now i first lt
          (all_IfFd-kept (attributes c.args.closed) (attributes c.args.closed) (attributes c.loop-dep.more) (attributes more.result) (take i c.args.deps.now) (λ k m. m) more.ensures.grows before.closed_so_far)
          (IfFd-kept (attributes c.args.closed) (attributes c.loop-dep.more) (attributes more.result) (attributes more.result) (get_or c.args.deps.now i first) before.grows (λ k m. m) more.ensures.functionally_closed);
    }

pub returns : goal.returns
returns c = record {
  grows = c.loop-dep.invariant.grows;
  within = c.loop-dep.invariant.within;
  implied = c.loop-dep.invariant.implied;
  functionally_closed = λ same. functional_all-from (λ (d : Dependency). IsSubset (left_of d) (attributes c.args.closed) → IsSubset (right_of d) (attributes c.args.closed)) c.args.deps.now
      (all_IfFd-kept (attributes c.args.closed) (attributes c.args.closed) (attributes c.loop-dep.more) (attributes c.args.closed) c.args.deps.now (λ k m. m) same
      (rw (take_all c.loop-dep.dep-index c.args.deps.now c.loop-dep-test.false) at c.loop-dep.invariant.closed_so_far));
}
