-- What is left to prove of `best_cut`: its clauses `none` and `best` and that a round of its loop
-- keeps the invariant, by `best_of_all`.
use Rattle.std.proofs.Common.{ℕ, ◌<◌, length, get_or, take_all, refl, sym, subst, arith}
use Rattle.std.proofs.lemmas.List.{get_or_default}
use Rattle.std.proofs.lemmas.List.Elements.{All-more}
use Rattle.attr_sets.specs.Sets.{attributes}
use Rattle.dep_model.specs.declared.dep.Dep.{Dep}
use Rattle.dep_model.specs.declared.dep.Dep.TheVariants.{Fd}
use Rattle.dep_model.specs.Deps.{dependency_of}
use Rattle.dep_model.proofs.DepLemmas.{dependencies_all-from}
use Rattle.dep_basis.specs.Refining.{LeavesWhole}
use Rattle.dep_basis.proofs.CutLemmas.{IsBestSoFar, IsBestSoFar-next, best_of_all}
use Rattle.dep_basis.proofs.cutting.best_cut.Goals as goal

abbrev zero : Dep
zero = Fd (record { 0 = 0 }) (record { 0 = 0 })

pub loop-k-preserved : goal.loop-k-preserved
loop-k-preserved c =
    let i = c.loop-k.k in
    let deps = c.args.deps.now in
    let part = attributes c.args.part in
    let lt : i < length deps = c.loop-k-test.true in
    let before = c.loop-k.invariant in
    let next = c.better_cut-best in
    record {
      none = λ none. let both = next.ensures.none none in All-more (λ (d : Dep). LeavesWhole part part (dependency_of d)) deps i zero lt (before.none both.0) both.1;
      best = IsBestSoFar-next deps part c.args.attribute i (get_or deps i zero) c.loop-k.best next.result (λ d. get_or_default deps i d zero lt) before.best next.ensures.better;
    }

pub returns-in-None-clause-none : goal.returns-in-None-clause-none
returns-in-None-clause-none c _ =
    dependencies_all-from (LeavesWhole (attributes c.args.part) (attributes c.args.part)) c.args.deps.now
    (rw (take_all c.loop-k.k c.args.deps.now c.loop-k-test.false) at (c.loop-k.invariant.none (rw c.in-None.is refl)))

pub returns-in-Some-clause-best : goal.returns-in-Some-clause-best
returns-in-Some-clause-best c =
    best_of_all c.args.deps.now (attributes c.args.part) c.args.attribute c.loop-k.k c.in-Some.cut c.loop-k.auto.k-end c.loop-k-test.false
    (subst (IsBestSoFar c.args.deps.now (attributes c.args.part) c.args.attribute c.loop-k.k) c.in-Some.is c.loop-k.invariant.best)
