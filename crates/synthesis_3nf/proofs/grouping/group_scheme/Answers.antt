-- What is left to prove of `group_scheme`: its clause `scheme` and that the invariant of its loop
-- holds at first and stays, by `group_scheme-take_next`.
use Rattle.std.proofs.Common.{◌<◌, length, sym, take_all}
use mathlib.Core.Path.{fun_ext}
use Rattle.std.proofs.Math.Bool.{or-false}
use Rattle.attr_sets.specs.Sets.{attributes}
use Rattle.dep_model.specs.declared.dep.Dep.{Dep}
use Rattle.dep_model.specs.declared.dep.Dep.TheVariants.{Fd}
use Rattle.synthesis_3nf.proofs.LoopLemmas.{group_scheme-take_next}
use Rattle.synthesis_3nf.proofs.grouping.group_scheme.Goals as goal

pub loop-dep-init : goal.loop-dep-init
loop-dep-init c = fun_ext (λ k. sym (or-false (attributes c.args.left k)))

pub loop-dep-preserved : goal.loop-dep-preserved
loop-dep-preserved c =
    let first : Dep = Fd (record { 0 = 0 }) (record { 0 = 0 }) in
    let lt : c.loop-dep.dep-index < length c.args.deps.now = c.loop-dep-test.true in
    group_scheme-take_next c.args.deps.now c.loop-dep.dep-index first (attributes c.args.left) (attributes c.loop-dep.scheme) (attributes c.with_member-scheme.result) lt c.loop-dep.invariant c.with_member-scheme.ensures.scheme

pub returns : goal.returns
returns c = record { scheme = rw (take_all c.loop-dep.dep-index c.args.deps.now c.loop-dep-test.false) at c.loop-dep.invariant }
