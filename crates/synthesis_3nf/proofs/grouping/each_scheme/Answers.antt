-- What is left to prove of `each_scheme`: its clause `schemes` and that the invariant of its loop
-- holds at first and stays, by `schemes_more`.
use Rattle.std.proofs.Common.{◌≡◌, ◌<◌, List, map, take_all, length, refl, subst}
use Rattle.attr_sets.specs.declared.set.AttrSet.{AttrSet}
use Rattle.dep_model.specs.Deps.{dependencies_of}
use Rattle.dep_model.specs.Plans.{schemes_of}
use Rattle.synthesis_3nf.specs.Groups.{group_scheme}
use Rattle.synthesis_3nf.proofs.LoopLemmas.{schemes_more}
use Rattle.synthesis_3nf.proofs.grouping.each_scheme.Goals as goal

pub loop-left-init : goal.loop-left-init
loop-left-init c = rw c.new-schemes.ensures.items refl

pub loop-left-preserved : goal.loop-left-preserved
loop-left-preserved c =
    let first : AttrSet = record { 0 = 0 } in
    let i = c.loop-left.left-index in
    let lefts = c.args.lefts.now in
    let lt : i < length lefts = c.loop-left-test.true in
    rw c.in_ok-push.ensures.items
    (schemes_more (group_scheme (dependencies_of c.args.deps.now)) lefts c.loop-left.schemes.items i first c.group_scheme.result lt c.loop-left.invariant c.group_scheme.ensures.scheme)

pub returns : goal.returns
returns c = record {
  schemes = subst (λ (xs : List AttrSet). schemes_of c.loop-left.schemes.items ≡ map (group_scheme (dependencies_of c.args.deps.now)) (schemes_of xs))
      (take_all c.loop-left.left-index c.args.lefts.now c.loop-left-test.false) c.loop-left.invariant;
}
