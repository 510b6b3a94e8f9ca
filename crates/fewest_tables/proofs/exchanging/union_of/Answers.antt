-- What is left to prove of `union_of`: its clause, and that the invariant of its loop holds at first and stays.
use Rattle.std.proofs.Common.{◌<◌, List, length, take_all, ap, ◌∙◌}
use Rattle.attr_sets.specs.Attributes.{Attributes}
use Rattle.attr_sets.specs.Sets.{attributes}
use Rattle.attr_sets.specs.declared.set.AttrSet.{AttrSet}
use Rattle.dep_model.specs.Plans.{schemes_of}
use Rattle.fewest_tables.specs.FewestSteps.{union_of}
use Rattle.fewest_tables.proofs.LoopLemmas.{any_mapped_more}
use Rattle.fewest_tables.proofs.exchanging.union_of.Goals as goal

pub loop-set-init : goal.loop-set-init
loop-set-init c = c.empty-all.ensures.members

pub loop-set-preserved : goal.loop-set-preserved
loop-set-preserved c =
    let sets = c.args.sets.now in
    let i = c.loop-set.set-index in
    let d : AttrSet = record { 0 = 0 } in
    let lt : i < length sets = c.loop-set-test.true in
    any_mapped_more (λ (x : Attributes). x) attributes sets i d (attributes c.loop-set.all) (attributes c.union-all.result) lt c.loop-set.invariant c.union-all.ensures.members

pub returns : goal.returns
returns c = record {
  members = c.loop-set.invariant ∙ ap (λ (l : List AttrSet). union_of (schemes_of l)) (take_all c.loop-set.set-index c.args.sets.now c.loop-set-test.false);
}
