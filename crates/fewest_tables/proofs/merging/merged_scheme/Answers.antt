-- What is left to prove of `merged_scheme`: its clause, and that the invariant of its loop holds at first and stays.
use Rattle.std.proofs.Common.{◌<◌, List, length, take_all, ap, ◌∙◌}
use Rattle.attr_sets.specs.Attributes.{Attributes, union}
use Rattle.attr_sets.specs.Sets.{attributes}
use Rattle.attr_sets.specs.declared.set.AttrSet.{AttrSet}
use Rattle.dep_model.specs.Deps.{dependencies_of}
use Rattle.dep_model.specs.Plans.{schemes_of}
use Rattle.synthesis_3nf.specs.Groups.{group_scheme}
use Rattle.fewest_tables.specs.MergedPlans.{merged_scheme}
use Rattle.fewest_tables.proofs.LoopLemmas.{any_mapped_more}
use Rattle.fewest_tables.proofs.merging.merged_scheme.Goals as goal

pub loop-left-init : goal.loop-left-init
loop-left-init c = c.empty-scheme.ensures.members

pub loop-left-preserved : goal.loop-left-preserved
loop-left-preserved c =
    let ds = dependencies_of c.args.deps.now in
    let group = c.args.group.now in
    let i = c.loop-left.left-index in
    let d : AttrSet = record { 0 = 0 } in
    let lt : i < length group = c.loop-left-test.true in
    let old = attributes c.loop-left.scheme in
    any_mapped_more (group_scheme ds) attributes group i d old (attributes c.union-scheme.result) lt c.loop-left.invariant
    (c.union-scheme.ensures.members ∙ ap (λ (x : Attributes). union old x) c.group_scheme.ensures.scheme)

pub returns : goal.returns
returns c = record {
  scheme = c.loop-left.invariant
      ∙ ap (λ (l : List AttrSet). merged_scheme (dependencies_of c.args.deps.now) (schemes_of l)) (take_all c.loop-left.left-index c.args.group.now c.loop-left-test.false);
}
