-- What is left to prove of `narrow_by_all`: its clauses `none`, `smaller`, `beyond`, `refined` and
-- one more, what `narrow_by` requires, and that the invariant of its loop holds at first and stays,
-- by `all_LeavesWhole-kept`.
use Rattle.std.proofs.Common.{◌<◌, length, get_or, refl, arith, take, take_all}
use Rattle.std.proofs.lemmas.List.Elements.{All-more}
use Rattle.attr_sets.specs.Sets.{attributes}
use Rattle.dep_model.specs.declared.dep.Dep.{Dep}
use Rattle.dep_model.specs.declared.dep.Dep.TheVariants.{Fd}
use Rattle.dep_model.specs.Deps.{dependency_of}
use Rattle.dep_model.proofs.DepLemmas.{dependencies_all-from, legal-to}
use Rattle.dep_basis.specs.Refining.{LeavesWhole}
use Rattle.dep_basis.proofs.RefiningLemmas.{LeavesWhole-kept, all_LeavesWhole-kept}
use Rattle.dep_basis.proofs.parts.narrow_by_all.Goals as goal

abbrev zero : Dep
zero = Fd (record { 0 = 0 }) (record { 0 = 0 })

pub loop-dep-init : goal.loop-dep-init
loop-dep-init c = record {
  smaller = λ k m. m;
  beyond = c.requires.beyond;
  refined = λ n x can. can;
  whole = λ k d l. absurd (omega arith);
}

pub narrow_by-requires : goal.narrow_by-requires
narrow_by-requires c = record { beyond = c.loop-dep.invariant.beyond }

pub returns-in-None-clause-none : goal.returns-in-None-clause-none
returns-in-None-clause-none c _ n x can =
    let i = c.loop-dep.dep-index in
    let deps = c.args.deps.now in
    let lt : i < length deps = c.loop-dep-test.true in
    c.in-None.ensures.none refl n deps x (can.deps i zero lt) (λ r legal. legal-to n deps r legal i zero lt) (c.loop-dep.invariant.refined n x can)

pub loop-dep-preserved : goal.loop-dep-preserved
loop-dep-preserved c =
    let i = c.loop-dep.dep-index in
    let deps = c.args.deps.now in
    let lt : i < length deps = c.loop-dep-test.true in
    let piece = attributes c.args.piece in
    let rest = attributes c.loop-dep.rest in
    let less = attributes c.in-Some.less in
    let before = c.loop-dep.invariant in
    let next = c.in-Some.ensures in
    record {
      smaller = λ k m. before.smaller k (next.smaller k m);
      beyond = next.beyond;
      refined = λ n x can. next.refined n deps x (can.deps i zero lt) (λ r legal. legal-to n deps r legal i zero lt) (before.refined n x can);
      whole = All-more (λ (d : Dep). LeavesWhole piece less (dependency_of d)) deps i zero lt
          (all_LeavesWhole-kept piece piece rest less (take i deps) (λ k m. m) next.smaller before.whole)
          (LeavesWhole-kept rest piece less less (dependency_of (get_or deps i zero)) before.smaller (λ k m. m) next.leaves_whole);
    }

pub returns-clause-smaller : goal.returns-clause-smaller
returns-clause-smaller c = c.loop-dep.invariant.smaller

pub returns-clause-beyond : goal.returns-clause-beyond
returns-clause-beyond c = c.loop-dep.invariant.beyond

pub returns-clause-refined : goal.returns-clause-refined
returns-clause-refined c = c.loop-dep.invariant.refined

pub returns-clause-leaves_whole : goal.returns-clause-leaves_whole
returns-clause-leaves_whole c same =
    let piece = attributes c.args.piece in
    let deps = c.args.deps.now in
    dependencies_all-from (LeavesWhole piece piece) deps
    (all_LeavesWhole-kept piece piece (attributes c.loop-dep.rest) piece deps (λ k m. m) same
    (rw (take_all c.loop-dep.dep-index deps c.loop-dep-test.false) at c.loop-dep.invariant.whole))
