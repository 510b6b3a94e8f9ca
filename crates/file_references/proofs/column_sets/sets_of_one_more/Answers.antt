-- What is left to prove of `sets_of_one_more`: that the invariant of its loop holds at first and stays, and what it
-- answers, by `SetLemmas`.
use Rattle.std.proofs.Common.{subst, List}
use Rattle.std.proofs.lemmas.List.{take_all}
use Rattle.attr_sets.specs.Sets.{attributes}
use Rattle.attr_sets.specs.declared.set.AttrSet.{AttrSet}
use Rattle.attr_sets.proofs.AttributesLemmas.{attributes_below}
use Rattle.file_references.proofs.SetLemmas.{AreLarger, all_larger, larger_more, larger_none}
use Rattle.file_references.proofs.column_sets.sets_of_one_more.Goals as goal

pub loop-set-init : goal.loop-set-init
loop-set-init c = record { larger = larger_none (attributes c.args.whole) c.args.sets.now _ c.new-larger.ensures.items }

pub loop-set-preserved : goal.loop-set-preserved
loop-set-preserved c = record {
  larger = larger_more (attributes c.args.whole) c.args.sets.now c.loop-set.larger.items c.add_larger.new.larger.items c.loop-set.set-index _
      c.loop-set-test.true c.loop-set.invariant.larger c.in_ok-add_larger.ensures.added;
}

pub returns : goal.returns
returns c = record {
  sets = λ size all. all_larger (attributes c.args.whole) size c.args.sets.now c.loop-set.larger.items (attributes_below c.args.whole) all
      (subst (λ (ss : List AttrSet). AreLarger (attributes c.args.whole) ss c.loop-set.larger.items)
      (take_all c.loop-set.set-index c.args.sets.now c.loop-set-test.false) c.loop-set.invariant.larger);
}
