-- What is left to prove of `cut_by_all`: its clauses `smaller`, `candidate` and `leaves_whole` and
-- that the invariant of its loop holds at first and stays, by `all_LeavesWhole-kept`.
use Rattle.std.proofs.Common.{◌<◌, length, get_or, arith, take, take_all}
use Rattle.std.proofs.lemmas.List.Elements.{All-more}
use Rattle.attr_sets.specs.Sets.{attributes}
use Rattle.dep_model.specs.declared.dep.Dep.{Dep}
use Rattle.dep_model.specs.declared.dep.Dep.TheVariants.{Fd}
use Rattle.dep_model.specs.Deps.{dependency_of, dependencies_of}
use Rattle.dep_model.proofs.DepLemmas.{dependencies_all-from, legal-to}
use Rattle.dep_basis.specs.Refining.{LeavesWhole}
use Rattle.dep_basis.proofs.RefiningLemmas.{LeavesWhole-kept, all_LeavesWhole-kept}
use Rattle.dep_basis.proofs.refining.cut_by_all.Goals as goal

pub loop-dep-init : goal.loop-dep-init
loop-dep-init c = record {
  smaller = λ k m. m;
  candidate = λ n x within x_in start. start;
  whole = λ k d l. absurd (omega arith);
}

pub loop-dep-preserved : goal.loop-dep-preserved
loop-dep-preserved c =
    let i = c.loop-dep.dep-index in
    let deps = c.args.deps.now in
    let part = attributes c.args.part in
    let before = c.loop-dep.invariant in
    let cut = c.cut_by-rest in
    let first : Dep = Fd (record { 0 = 0 }) (record { 0 = 0 }) in
    let lt : i < length deps = c.loop-dep-test.true in
    record {
      smaller = λ k m. before.smaller k (cut.ensures.smaller k m);
      candidate = λ n x within x_in start. cut.ensures.candidate n (dependencies_of deps) x (within i first lt) x_in
          (λ r legal. legal-to n deps r legal i first lt) (before.candidate n x within x_in start);
      whole = All-more (λ (d : Dep). LeavesWhole part (attributes cut.result) (dependency_of d)) deps i first lt
          (all_LeavesWhole-kept part part (attributes c.loop-dep.rest) (attributes cut.result) (take i deps) (λ k m. m) cut.ensures.smaller before.whole)
          (LeavesWhole-kept (attributes c.loop-dep.rest) part (attributes cut.result) (attributes cut.result) (dependency_of (get_or deps i first)) before.smaller (λ k m. m) cut.ensures.leaves_whole);
    }

pub returns : goal.returns
returns c =
    let part = attributes c.args.part in
    let deps = c.args.deps.now in
    record {
      smaller = c.loop-dep.invariant.smaller;
      candidate = c.loop-dep.invariant.candidate;
      leaves_whole = λ same. dependencies_all-from (LeavesWhole part part) deps
          (all_LeavesWhole-kept part part (attributes c.loop-dep.rest) part deps (λ k m. m) same
          (rw (take_all c.loop-dep.dep-index deps c.loop-dep-test.false) at c.loop-dep.invariant.whole));
    }
